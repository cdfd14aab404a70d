-- The step that adds an entry keeps the rule of the list.
use Rattle.std.proofs.Common.{◌≡◌, ℕ, ◌+◌, ◌<◌, ◌≤◌, ◌==◌, Bool, true, false, List, [], ◌∷◌, ◌++◌, length, refl, ap, sym, ◌∙◌, subst, arith, inl, length-append, None}
use Rattle.std.proofs.lemmas.List.{append-nil}
use Rattle.std.proofs.lemmas.Bool.Decides.{nat_tests}
use mathlib.Core.List.{IsPrefix}
use prog.Atomic.{either}
use Rattle.logbook.specs.Pages.{Cell, cell, keeps, no_nib, step, Moves, Goes}
use Rattle.pmg_history.specs.Appending.{IsLength, AppendsStep}
use Rattle.pmg_history.proofs.Prefixes.{prefix_whole}

-- what clients see of the list: nothing
abbrev pub shown : {E : Type 0} → List E → List E
shown log = []

-- what a client's update does: nothing
abbrev pub moved : {E : Type 0} → List E → List E → ℕ → Type 0
moved xs ys n = Unit {0}

appends_goes : {E : Type 0} (log v : List E) (p : E) (old : ℕ) → old ≤ length v → IsPrefix v log
    → (b : Bool) → (length log == old) ≡ b
    → Goes IsLength shown moved 0 (v, (no_nib, None)) (λ n. either (n == old) (old + 1) n) (AppendsStep (step 0 old (old + 1) p) (v, (no_nib, None))) ((length log, true) ∷ (0, true) ∷ []) log
appends_goes log v p old len pre true is =
    let here : length log ≡ old = grind (arith, nat_tests) in
    let same : v ≡ log = prefix_whole v log pre (omega (arith, here, len)) in
    let long : length v ≡ old = ap length same ∙ here in
    let n : either (length log == old) (old + 1) (length log) ≡ length (log ++ p ∷ []) = rw is (omega (arith, length-append log (p ∷ []))) in (
      keeps,
      p ∷ [],
      None,
      tt,
      ap (λ (k : ℕ). (k, true) ∷ (0, true) ∷ []) n,
      inl (refl, refl),
      rw is (ap (λ w. w ++ p ∷ []) (sym same), long),
    )
appends_goes log v p old len pre false is =
    let all : log ++ [] ≡ log = append-nil log in
    let n : either (length log == old) (old + 1) (length log) ≡ length (log ++ []) = rw is (ap length (sym all)) in (
      keeps,
      [],
      None,
      tt,
      ap (λ (k : ℕ). (k, true) ∷ (0, true) ∷ []) n,
      inl (refl, refl),
      rw is (ap length all),
    )

-- whatever the list is, the step adds the entry to all that was seen, or finds that the list is longer
pub appends_moves : {E : Type 0} (v : List E) (p : E) (old : ℕ) → old ≤ length v
    → Moves IsLength shown moved 0 (v, (no_nib, None)) (λ n. either (n == old) (old + 1) n) (AppendsStep (step 0 old (old + 1) p) (v, (no_nib, None)))
appends_moves v p old len cs log kept pre away =
    let P : List Cell → Type 0 = λ c. (0 < length c) × ((cell c 0).1 ≡ true) × Goes IsLength shown moved 0 (v, (no_nib, None)) (λ n. either (n == old) (old + 1) n) (AppendsStep (step 0 old (old + 1) p) (v, (no_nib, None))) c log in
    subst P (sym kept) (omega arith, refl, appends_goes log v p old len pre (length log == old) refl)
