use Rattle.std.proofs.Common.{◌≡◌}
use Rattle.std.specs.Prelude.{◌==◌}
use Rattle.std.specs.List.{filter, list_any}
use Rattle.pmg_frame.specs.Fences.{participants_of}
use Rattle.pmg_jobinfo.specs.Jobs.{home_of}
use Rattle.pmg_node_parts.proofs.telling.peers_in.Given as goal

abbrev pub invariant-loop-node : goal.invariant-loop-node
invariant-loop-node l = l.nodes.items ≡ filter (λ m. list_any (λ q. home_of l.registry q == m) (participants_of l.name)) l.yielded
