use Rattle.std.proofs.Common.{◌≡◌, ◌≤◌, List, [], map, drop, length, refl, arith, Some}
use Rattle.std.proofs.lemmas.Grind.{common_steps}
use Rattle.pmg_store.proofs.MergeLemmas.{on_start, on_step, on_failure, on_end, some_of_each, next_of}
use Rattle.pmg_store.proofs.merge.store_of_inputs.Goals as goal

pub loop-input-init : goal.loop-input-init
loop-input-init c = record {
  number = refl;
  way = rw c.new-all.ensures (on_start (map (λ input. Some input.items) c.args.inputs.now));
}

pub returns-in-Err-clause-gives : goal.returns-in-Err-clause-gives
returns-in-Err-clause-gives c =
    let at = c.loop-input in
    let next = next_of (λ input. Some input.items) c.args.inputs.now at.input-index c.input-item.result (omega (arith, c.loop-input-test.true)) c.input-item.is in
    rw c.failure_in.ensures.value (rw at.invariant.number (on_failure at.all at.input-index _ _ (map (λ input. Some input.items) c.args.inputs.now) c.in-Err.failure
    (rw next at at.invariant.way) (rw c.deref.ensures.value at c.in-Err.ensures.fails) (map (λ input. input.items) c.args.inputs.now) (some_of_each (λ input. input.items) c.args.inputs.now)))

pub loop-input-preserved : goal.loop-input-preserved
loop-input-preserved c =
    let at = c.loop-input in
    let next = next_of (λ input. Some input.items) c.args.inputs.now at.input-index c.input-item.result (omega (arith, c.loop-input-test.true)) c.input-item.is in
    let taken = rw c.deref.ensures.value at c.in_default.ensures.taken in
    record {
      number = omega (arith, at.invariant.number);
      way = rw taken.2 (on_step at.all taken.0 at.input-index _ _ (map (λ input. Some input.items) c.args.inputs.now)
          (rw next at at.invariant.way) taken.1);
    }

no_more : {X : Type 0} (xs : List X) (i : _) → length xs ≤ i → drop i xs ≡ []
no_more xs i past = grind (arith, common_steps)

pub returns-clause-gives : goal.returns-clause-gives
returns-clause-gives c =
    let at = c.loop-input in
    let none = no_more c.args.inputs.now at.input-index (omega (arith, c.loop-input-test.false)) in
    on_end at.all at.input-index (map (λ input. Some input.items) c.args.inputs.now) (rw none at at.invariant.way)
    (map (λ input. input.items) c.args.inputs.now) (some_of_each (λ input. input.items) c.args.inputs.now)
