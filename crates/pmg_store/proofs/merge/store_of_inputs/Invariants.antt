use Rattle.std.proofs.Common.{◌≡◌, Some, map, drop}
use Rattle.pmg_store.proofs.MergeLemmas.{IsOnTheWay}
use Rattle.pmg_store.proofs.merge.store_of_inputs.Given as goal

-- what was taken, with what the other streams tell, is what all tell
abbrev pub invariant-loop-input : goal.invariant-loop-input
invariant-loop-input l = record {
  number : l.number ≡ l.input-index;
  way : IsOnTheWay l.all l.input-index (map (λ input. Some input.items) (drop l.input-index l.inputs)) (map (λ input. Some input.items) l.inputs);
}
