-- The step that adds a publication keeps the rule of the list.
use Rattle.std.proofs.Common.{◌≡◌, ℕ, ◌+◌, ◌<◌, ◌==◌, Bool, true, false, List, [], ◌∷◌, ◌++◌, length, refl, ap, sym, subst, arith, inl, length-append, None}
use Rattle.std.proofs.lemmas.List.{append-nil}
use Rattle.std.proofs.lemmas.Bool.Decides.{nat_tests}
use mathlib.Core.List.{IsPrefix}
use prog.Atomic.{either}
use Rattle.logbook.specs.Pages.{Cell, cell, keeps, no_nib, step, Moves, Goes}
use Rattle.pmg_publish.specs.declared.counting.Publication.{Publication}
use Rattle.pmg_publish.specs.Counting.{IsCount, AddsStep}
use Rattle.pmg_publish.proofs.Prefixes.{prefix_whole}

-- what clients see of the list: nothing
abbrev pub shown : List Publication → List Publication
shown log = []

-- what a client's update does: nothing
abbrev pub moved : List Publication → List Publication → ℕ → Type 0
moved xs ys n = Unit {0}

pub adds_goes : (log v : List Publication) (p : Publication) (old : ℕ) → length v ≡ old → IsPrefix v log
    → (b : Bool) → (length log == old) ≡ b
    → Goes IsCount shown moved 0 (v, (no_nib, None)) (λ n. either (n == old) (old + 1) n) (AddsStep (step 0 old (old + 1) p) (v, (no_nib, None))) ((length log, true) ∷ (0, true) ∷ []) log
adds_goes log v p old len pre true is =
    let here : length log ≡ old = grind (arith, nat_tests) in
    let same : v ≡ log = prefix_whole v log pre (omega arith) in
    let n : either (length log == old) (old + 1) (length log) ≡ length (log ++ p ∷ []) = rw is (omega (arith, length-append log (p ∷ []))) in (
      keeps,
      p ∷ [],
      None,
      tt,
      ap (λ (k : ℕ). (k, true) ∷ (0, true) ∷ []) n,
      inl (refl, refl),
      rw is (ap (λ w. w ++ p ∷ []) (sym same)),
    )
adds_goes log v p old len pre false is =
    let all : log ++ [] ≡ log = append-nil log in
    let n : either (length log == old) (old + 1) (length log) ≡ length (log ++ []) = rw is (ap length (sym all)) in (
      keeps,
      [],
      None,
      tt,
      ap (λ (k : ℕ). (k, true) ∷ (0, true) ∷ []) n,
      inl (refl, refl),
      rw is (ap length all),
    )

-- whatever the list is, the step adds the publication to all that was seen, or finds that the list is longer
pub adds_moves : (v : List Publication) (p : Publication) (old : ℕ) → length v ≡ old
    → Moves IsCount shown moved 0 (v, (no_nib, None)) (λ n. either (n == old) (old + 1) n) (AddsStep (step 0 old (old + 1) p) (v, (no_nib, None)))
adds_moves v p old len cs log kept pre away =
    let P : List Cell → Type 0 = λ c. (0 < length c) × ((cell c 0).1 ≡ true) × Goes IsCount shown moved 0 (v, (no_nib, None)) (λ n. either (n == old) (old + 1) n) (AddsStep (step 0 old (old + 1) p) (v, (no_nib, None))) c log in
    subst P (sym kept) (omega arith, refl, adds_goes log v p old len pre (length log == old) refl)
