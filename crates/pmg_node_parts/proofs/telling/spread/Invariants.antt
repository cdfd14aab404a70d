use Rattle.std.proofs.Common.{◌≡◌, map}
use Rattle.pmg_node_parts.specs.Telling.{piece_by}
use Rattle.pmg_node_parts.specs.Owns.{sealed_of}
use Rattle.pmg_node_parts.proofs.telling.spread.Given as goal

abbrev pub invariant-loop-node : goal.invariant-loop-node
invariant-loop-node l = l.dues.items ≡ map (λ m. piece_by (sealed_of l.own) l.host m 0) l.yielded
