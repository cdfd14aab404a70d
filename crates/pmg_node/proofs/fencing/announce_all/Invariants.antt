use Rattle.std.proofs.Common.{◌≡◌}
use Rattle.std.specs.List.{flat_map}
use Rattle.pmg_node_parts.specs.Telling.{announcing_by}
use Rattle.pmg_node.proofs.fencing.announce_all.Given as goal

abbrev pub invariant-loop-header : goal.invariant-loop-header
invariant-loop-header l = l.dues.items ≡ flat_map (announcing_by l.registry l.id) l.yielded
