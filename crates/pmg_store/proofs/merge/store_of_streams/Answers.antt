use Rattle.std.proofs.Common.{◌≡◌, ◌≤◌, ◌<◌, ◌+◌, ℕ, List, [], map, drop, length, refl, ap, ◌∙◌, inl, inr, Err, arith}
use Rattle.std.proofs.lemmas.Grind.{common_steps}
use Rattle.pmg_store.specs.declared.failure.Failure.{Failure}
use Rattle.pmg_store.specs.declared.failure.Failure.TheVariants as failures
use Rattle.pmg_store.specs.declared.input.WatchedReader.{WatchedReader}
use Rattle.pmg_store.specs.Merged.{failure_in}
use Rattle.pmg_store.proofs.MergeLemmas.{on_start, on_step, on_failure, on_end}
use Rattle.pmg_store.proofs.ReaderLemmas.{failed_at, failed_parts, failed_before, few_start, few_at, next_reader, same_reader, same_others}
use Rattle.pmg_store.proofs.merge.store_of_streams.Goals as goal

pub loop-reader-init : goal.loop-reader-init
loop-reader-init g c = record {
  number = refl;
  unread = refl;
  few = few_start c.args.readers.now;
  failed = λ was. was;
  way = rw c.new-all.ensures (on_start (map (λ r. g.R.Read.remaining r.reader) c.args.readers.now));
}

pub returns-in-Err-clause-gives : goal.returns-in-Err-clause-gives
returns-in-Err-clause-gives g c streams known =
    let at = c.loop-reader in
    let give = λ (r : WatchedReader g.row.R.Denot). g.R.Read.remaining r.reader in
    let within : at.reader-index < length at.readers = omega (arith, c.loop-reader-test.true) in
    let next = next_reader give at.readers at.reader-index c.reader-item.result c.take_reader.new.reader within in
    rw c.failure_in.ensures.value (rw at.invariant.number (on_failure at.all at.reader-index _ _ (map give c.args.readers.now) c.in-Err.failure
    (rw next at at.invariant.way) c.in-Err.ensures.fails streams known))

pub returns-in-Err-clause-read_fault : goal.returns-in-Err-clause-read_fault
returns-in-Err-clause-read_fault g c is =
    let at = c.loop-reader in
    let within : at.reader-index < length at.readers = omega (arith, c.loop-reader-test.true) in
    failed_at at.readers at.reader-index c.take_reader.new.reader within (c.in-Err.ensures.read_fault (c.failure_in.ensures.read_fault is))

told_read : (number : ℕ) (failure told : Failure) → told ≡ failure_in number failure → failure ≡ failures.Read → told ≡ failures.Read
told_read number failure told is same = is ∙ ap (failure_in number) same

pub returns-in-Err-clause-failed : goal.returns-in-Err-clause-failed
returns-in-Err-clause-failed g c failed =
    let at = c.loop-reader in
    let within : at.reader-index < length at.readers = omega (arith, c.loop-reader-test.true) in
    elim (failed_parts at.readers at.reader-index c.take_reader.new.reader failed) [
      | inr was ↦ inl (at.invariant.failed was)
      | inl now ↦ elim (c.in-Err.ensures.failed now) [
        | inl was ↦ inl (at.invariant.failed (failed_before at.readers at.reader-index c.reader-item.result within was))
        | inr is ↦ inr (ap Err (told_read (at.number + 1) c.in-Err.failure c.failure_in.result c.failure_in.ensures.value cc))
      ]
    ]

pub returns-in-Err-clause-few : goal.returns-in-Err-clause-few
returns-in-Err-clause-few g c =
    let at = c.loop-reader in
    let within : at.reader-index < length at.readers = omega (arith, c.loop-reader-test.true) in
    let same = same_reader c.args.readers.now at.readers at.reader-index c.reader-item.result within at.invariant.unread at.auto.readers in
    few_at c.args.readers.now at.readers at.reader-index c.reader-item.result c.take_reader.new.reader at.invariant.few
    (rw (← same) c.take_reader.ensures.few)

pub loop-reader-preserved : goal.loop-reader-preserved
loop-reader-preserved g c =
    let at = c.loop-reader in
    let give = λ (r : WatchedReader g.row.R.Denot). g.R.Read.remaining r.reader in
    let within : at.reader-index < length at.readers = omega (arith, c.loop-reader-test.true) in
    let next = next_reader give at.readers at.reader-index c.reader-item.result c.take_reader.new.reader within in
    let same = same_reader c.args.readers.now at.readers at.reader-index c.reader-item.result within at.invariant.unread at.auto.readers in
    let taken = c.in_default.ensures.taken in
    record {
      number = omega (arith, at.invariant.number);
      unread = same_others c.args.readers.now at.readers at.reader-index c.take_reader.new.reader within at.invariant.unread at.auto.readers;
      few = few_at c.args.readers.now at.readers at.reader-index c.reader-item.result c.take_reader.new.reader at.invariant.few
          (rw (← same) c.take_reader.ensures.few);
      failed = λ failed. elim (failed_parts at.readers at.reader-index c.take_reader.new.reader failed) [
        | inr was ↦ at.invariant.failed was
        | inl now ↦ elim (c.in_default.ensures.failed now) [
          | inl was ↦ at.invariant.failed (failed_before at.readers at.reader-index c.reader-item.result within was)
          | inr is ↦ absurd (let bad = is in cc)
        ]
      ];
      way = rw taken.2 (on_step at.all taken.0 at.reader-index _ _ (map give c.args.readers.now)
          (rw next at at.invariant.way) taken.1);
    }

no_more : {X : Type 0} (xs : List X) (i : _) → length xs ≤ i → drop i xs ≡ []
no_more xs i past = grind (arith, common_steps)

pub returns-clause-gives : goal.returns-clause-gives
returns-clause-gives g c streams known =
    let at = c.loop-reader in
    let none = no_more at.readers at.reader-index (omega (arith, c.loop-reader-test.false)) in
    on_end at.all at.reader-index (map (λ r. g.R.Read.remaining r.reader) c.args.readers.now) (rw none at at.invariant.way) streams known
