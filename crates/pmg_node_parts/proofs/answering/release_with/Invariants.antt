use Rattle.std.proofs.Common.{◌≡◌, ◌++◌, [], map}
use Rattle.std.specs.Prelude.{if◌then◌else◌}
use Rattle.std.specs.FinSet as set
use Rattle.std.specs.List.{flat_map}
use Rattle.pmg_node_parts.specs.BoardPreview.{far_ahead}
use Rattle.pmg_node_parts.specs.Answered.{standings, released_in}
use Rattle.pmg_node_parts.proofs.answering.release_with.Given as goal

abbrev pub invariant-loop-name : goal.invariant-loop-name
invariant-loop-name l =
    standings l.answers.items
    ≡ standings l.fn.answers.items
    ++ flat_map (λ f. if set.contains f.signature.participants l.fn.proc then released_in l.fn.table.jobs l.fn.table.node l.fn.table.fences (far_ahead l.fn.ahead) l.fn.calls f else []) (map (λ f. f.now) l.yielded)
