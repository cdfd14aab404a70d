use Rattle.std.proofs.Common.{◌≡◌, ◌++◌}
use Rattle.std.specs.List.{flat_map}
use Rattle.pmg_node_parts.specs.Telling.{telling_by}
use Rattle.pmg_node_parts.proofs.telling.announce.Given as goal

abbrev pub invariant-loop-node : goal.invariant-loop-node
invariant-loop-node l = l.dues.items ≡ l.fn.dues.items ++ flat_map (telling_by l.fn.header) l.yielded
