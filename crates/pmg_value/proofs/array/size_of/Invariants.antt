use Rattle.std.proofs.Common.{take}
use Rattle.pmg_value.proofs.ArrayLemmas.{SoFar}
use Rattle.pmg_value.proofs.array.size_of.Given as goal

abbrev pub invariant-loop-item : goal.invariant-loop-item
invariant-loop-item l = SoFar l.tag l.size (take l.item-index l.items)
