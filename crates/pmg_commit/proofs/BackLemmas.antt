-- Changes of stamps that are taken back.
use Rattle.std.proofs.Common.{◌≡◌, ℕ, List, [], ◌∷◌, ◌++◌, Option, refl, ap, ◌∙◌}
use Rattle.std.specs.FinMap as finite
use Rattle.std.specs.Option.{option_map}
use Rattle.std.specs.Cmp.Lexicographic.{nat_list_cmp_total}
use Rattle.std.proofs.lemmas.Map.Lookups.{exact_bytes}
use Rattle.pmg_value.specs.Rows.{put_back}
use Rattle.pmg_value.proofs.RowLemmas.{inserted_back, same_back}
use Rattle.pmg_commit.specs.declared.last_puts.SealedPut.{SealedPut}
use Rattle.pmg_commit.specs.Sealed.{Stamp, Stamps}
use Rattle.pmg_commit.specs.Stamped.{stamp_of}
use Rattle.pmg_commit.specs.TakenBack.{all_back}

abbrev pub Before : Type 0
Before = List (List ℕ × Option SealedPut)

-- the change that was noted last is taken back first
pub back-push : (m : Stamps) (before : Before) (k : List ℕ) (p : Option SealedPut) → all_back m (before ++ (k, p) ∷ []) ≡ all_back (put_back m k (option_map stamp_of p)) before
back-push m [] k p = refl
back-push m (b ∷ before) k p = ap (λ (t : Stamps). put_back t b.0 (option_map stamp_of b.1)) (back-push m before k p)

-- a stamp that was noted is taken back
pub back-stamped : (m : Stamps) (before : Before) (k : List ℕ) (p : Option SealedPut) (s : Stamp) → option_map stamp_of p ≡ finite.get m k
    → all_back (finite.insert m k s) (before ++ (k, p) ∷ []) ≡ all_back m before
back-stamped m before k p s e =
    back-push (finite.insert m k s) before k p ∙ ap (λ (t : Stamps). all_back t before) (inserted_back nat_list_cmp_total exact_bytes m k s (option_map stamp_of p) e)

-- and so is one that was noted and not made
pub back-same : (m : Stamps) (before : Before) (k : List ℕ) (p : Option SealedPut) → option_map stamp_of p ≡ finite.get m k → all_back m (before ++ (k, p) ∷ []) ≡ all_back m before
back-same m before k p e = back-push m before k p ∙ ap (λ (t : Stamps). all_back t before) (same_back nat_list_cmp_total exact_bytes m k (option_map stamp_of p) e)
