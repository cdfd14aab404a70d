use Rattle.pmg_world.specs.Keeping.{AreNew}
use Rattle.pmg_world.proofs.group.new_nodes.Given as goal

abbrev pub invariant-loop-index : goal.invariant-loop-index
invariant-loop-index l = AreNew l.registry l.index l.nodes.items
