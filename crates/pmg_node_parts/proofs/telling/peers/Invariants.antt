use Rattle.std.proofs.Common.{◌≡◌, not}
use Rattle.std.specs.Prelude.{◌==◌}
use Rattle.std.specs.List.{filter}
use Rattle.pmg_jobinfo.specs.Expansion.{ranks}
use Rattle.pmg_node_parts.proofs.telling.peers.Given as goal

abbrev pub invariant-loop-index : goal.invariant-loop-index
invariant-loop-index l = l.nodes.items ≡ filter (λ m. not (m == l.fn.id)) (ranks l.index)
