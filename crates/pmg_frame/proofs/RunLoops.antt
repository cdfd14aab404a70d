-- Loops that read runs: steps of reading, each given what the steps before it have made, and the items of a run.
use Rattle.std.proofs.Common.{◌≡◌, ℕ, suc, ◌+◌, ◌-◌, ◌≤◌, ◌<◌, List, [], ◌∷◌, ◌++◌, length, None, Ok, Err, refl, sym, ap, ◌∙◌, append_assoc, arith}
use Rattle.std.specs.Prelude.{slice_get}
use Rattle.std.proofs.lemmas.List.{append-nil}
use Rattle.pmg_value.specs.declared.refusal.Refusal.{Refusal}
use Rattle.pmg_value.specs.declared.refusal.Refusal.TheVariants as refusals
use Rattle.pmg_wire.specs.Reading.{Place, Read, FailsReading}
use Rattle.pmg_frame.specs.RunReading.{repeated, last_or}
use Rattle.pmg_frame.specs.Runs.{Ranked, line}
use Rattle.pmg_frame.proofs.RunRules.{IsRanked}

-- a step more: those that are left go on from what it made
pub turn_more : {S : Type 0} (step : S → Place → Read S) (count i : ℕ) (before : S) (at : Place) (made : S) (after : Place) (total : Read S) → i < count
    → step before at ≡ Ok (made, after) → repeated step (count - i) before at ≡ total → repeated step (count - (i + 1)) made after ≡ total
unfolding repeated
turn_more step count i before at made after total lt h so_far =
    let left : count - i ≡ suc (count - (i + 1)) = omega arith in
    let one : repeated step (count - i) before at ≡ repeated step (count - (i + 1)) made after = rw (left, h) refl in
    sym one ∙ so_far

-- a step that fails
pub turn_fails : {S : Type 0} (step : S → Place → Read S) (e : Refusal) (count i : ℕ) (before : S) (at : Place) (total : Read S) → i < count
    → FailsReading e (step before at) → repeated step (count - i) before at ≡ total → FailsReading e total
unfolding repeated
turn_fails step refusals.NoMemory count i before at total lt h so_far = tt
turn_fails step (refusals.BadFrame f) count i before at total lt h so_far =
    let left : count - i ≡ suc (count - (i + 1)) = omega arith in
    let one : repeated step (count - i) before at ≡ Err f = rw (left, h) refl in
    sym so_far ∙ one
turn_fails step e count i before at total lt h so_far = absurd h

-- and none is left
pub turns_done : {S : Type 0} (step : S → Place → Read S) (count i : ℕ) (before : S) (at : Place) (total : Read S) → count ≤ i
    → repeated step (count - i) before at ≡ total → total ≡ Ok (before, at)
unfolding repeated
turns_done step count i before at total le so_far =
    let left : count - i ≡ 0 = omega arith in
    let one : repeated step (count - i) before at ≡ Ok (before, at) = rw left refl in
    sym so_far ∙ one

-- ---- the items of a run

-- an item more: those that are left go on from it
pub line_more : {A : Type 0} (k : Ranked A) → IsRanked k → (so_far : List A) (x : A) (last rank : ℕ) (total : List A) → rank < last + 1
    → so_far ++ line k (suc last - rank) (k.at x rank) ≡ total → (so_far ++ k.at x rank ∷ []) ++ line k (suc last - (rank + 1)) (k.at x (rank + 1)) ≡ total
unfolding line
line_more {A = A} k is so_far x last rank total lt h =
    let left : suc last - rank ≡ suc (suc last - (rank + 1)) = omega arith in
    let behind = λ (y : A). line k (suc last - (rank + 1)) y in
    let next : k.at (k.at x rank) (suc (k.rank (k.at x rank))) ≡ k.at x (rank + 1) = is.at_at x rank (suc (k.rank (k.at x rank))) ∙ ap (k.at x) (ap suc (is.rank_at x rank) ∙ omega arith) in
    let one : so_far ++ line k (suc last - rank) (k.at x rank) ≡ so_far ++ (k.at x rank ∷ behind (k.at x (rank + 1))) = rw left (ap (λ (y : A). so_far ++ (k.at x rank ∷ behind y)) next) in
    append_assoc so_far (k.at x rank ∷ []) (behind (k.at x (rank + 1))) ∙ sym one ∙ h

-- and none is left
pub line_done : {A : Type 0} (k : Ranked A) (so_far : List A) (x : A) (last rank : ℕ) (total : List A) → last + 1 ≤ rank → so_far ++ line k (suc last - rank) (k.at x rank) ≡ total → so_far ≡ total
unfolding line
line_done k so_far x last rank total le h =
    let left : suc last - rank ≡ 0 = omega arith in
    let one : so_far ++ line k (suc last - rank) (k.at x rank) ≡ so_far = rw left (append-nil so_far) in
    sym one ∙ h

-- the last of the items so far, as `last` of a slice answers it
pub last_or_is : {A : Type 0} (xs : List A) → slice_get xs (length xs - 1) ≡ last_or None xs
last_or_is [] = refl
last_or_is (x ∷ []) = refl
last_or_is (x ∷ y ∷ ys) = let before : length (x ∷ y ∷ ys) - 1 ≡ suc (length (y ∷ ys) - 1) = omega arith in rw before (last_or_is (y ∷ ys))
