-- The last element of a list, as `last` of a slice answers it.
use Rattle.std.proofs.Common.{◌≡◌, ℕ, suc, ◌+◌, ◌-◌, ◌<◌, List, [], ◌∷◌, ◌++◌, length, Option, Ok, refl, sym, ap, subst, ◌∙◌, arith}
use Rattle.std.specs.Prelude.{slice_get}
use Rattle.pmg_value.specs.declared.refusal.Refusal.{Refusal}
use Rattle.pmg_wire.specs.Many.{many}
use Rattle.pmg_wire.specs.Reading.{Place, Read, FailsReading}
use Rattle.pmg_wire.proofs.Counted.{with_front, last_of, goes_on, ends}

pub last_is : {X : Type 0} (xs : List X) → slice_get xs (length xs - 1) ≡ last_of xs
last_is [] = refl
last_is (x ∷ []) = refl
last_is (x ∷ y ∷ ys) = let before : length (x ∷ y ∷ ys) - 1 ≡ suc (length (y ∷ ys) - 1) = omega arith in rw before (last_is (y ∷ ys))

-- where the next element behind the last one fails, all of them do
pub fails_behind : {X : Type 0} (read : Option X → Place → Read X) (e : Refusal) (front : List X) (last : Option X) (count i : ℕ) (at : Place) (total : Read (List X)) → last ≡ last_of front → i < count
    → FailsReading e (read last at) → with_front front (many read (count - i) (last_of front) at) ≡ total → FailsReading e total
fails_behind {X} read e front last count i at total is lt failed so_far = ends read e front count i at total lt (subst (λ (o : Option X). FailsReading e (read o at)) is failed) so_far

-- and where it is read, it stands behind the others
pub goes_behind : {X : Type 0} (read : Option X → Place → Read X) (front more : List X) (last : Option X) (count i : ℕ) (at : Place) (x : X) (after : Place) (total : Read (List X)) → last ≡ last_of front
    → more ≡ front ++ x ∷ [] → i < count → read last at ≡ Ok (x, after) → with_front front (many read (count - i) (last_of front) at) ≡ total
    → with_front more (many read (count - (i + 1)) (last_of more) after) ≡ total
goes_behind {X} read front more last count i at x after total is grown lt got so_far =
    let next : read (last_of front) at ≡ Ok (x, after) = ap (λ (o : Option X). read o at) (sym is) ∙ got in
    rw grown (goes_on read front count i at x after total lt next so_far)
