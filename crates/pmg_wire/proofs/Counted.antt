-- Reading counted lists, as a loop does, and their laws.
use Rattle.std.proofs.Common.{◌≡◌, ℕ, zero, suc, ◌-◌, ◌+◌, ◌≤◌, ◌<◌, List, [], ◌∷◌, ◌++◌, length, Option, Some, None, Ok, Err, refl, sym, ap, ◌∙◌, append_assoc, arith}
use Rattle.std.proofs.lemmas.List.{append-nil, length-append}
use Rattle.pmg_value.specs.declared.refusal.Refusal.{Refusal}
use Rattle.pmg_value.specs.declared.refusal.Refusal.TheVariants as refusals
use Rattle.std.specs.List.{flat_map}
use Rattle.std.specs.Prelude.{map, slice_get}
use Rattle.std.specs.Option.{option_map, option_copied}
use denote.Bor.{Bor}
use Rattle.pmg_wire.specs.Many.{many, Chain}
use Rattle.pmg_wire.proofs.Steps.{place, IfRead, bind_if, done_if, Takes-then, IsBytes-after}
use Rattle.pmg_wire.specs.Reading.{Place, Read, ◌>>=◌, FailsReading, IsBytes, Takes}

-- what was read before, and what is still read
abbrev pub with_front : {X : Type 0} → List X → Read (List X) → Read (List X)
with_front front read = read >>= λ x. Ok (front ++ x.0, x.1)

-- the last element
abbrev pub last_of : {X : Type 0} → List X → Option X
last_of [] = None
last_of (x ∷ []) = Some x
last_of (x ∷ y ∷ ys) = last_of (y ∷ ys)

pub last_of-push : {X : Type 0} (xs : List X) (y : X) → last_of (xs ++ y ∷ []) ≡ Some y
last_of-push [] y = refl
last_of-push (x ∷ []) y = refl
last_of-push (x ∷ (z ∷ zs)) y = last_of-push (z ∷ zs) y

regroup : {X : Type 0} (front : List X) (x : X) (read : Read (List X)) → with_front front (read >>= λ others. Ok (x ∷ others.0, others.1)) ≡ with_front (front ++ x ∷ []) read
regroup {X = X} front x (Ok others) = ap (λ (xs : List X). Ok (xs, others.1)) (simp append_assoc)
regroup front x (Err f) = refl

pub goes_on : {X : Type 0} (read : Option X → Place → Read X) (front : List X) (count i : ℕ) (at : Place) (x : X) (after : Place) (total : Read (List X)) → i < count
    → read (last_of front) at ≡ Ok (x, after)
    → with_front front (many read (count - i) (last_of front) at) ≡ total
    → with_front (front ++ x ∷ []) (many read (count - (i + 1)) (last_of (front ++ x ∷ [])) after) ≡ total
unfolding many
goes_on read front count i at x after total lt h so_far =
    let k : count - i ≡ suc (count - (i + 1)) = omega arith in
    let one : with_front front (many read (count - i) (last_of front) at) ≡ with_front (front ++ x ∷ []) (many read (count - (i + 1)) (Some x) after) = rw (k, h) (regroup front x (many read (count - (i + 1)) (Some x) after)) in
    rw (last_of-push front x) (sym one ∙ so_far)

pub ends : {X : Type 0} (read : Option X → Place → Read X) (e : Refusal) (front : List X) (count i : ℕ) (at : Place) (total : Read (List X)) → i < count
    → FailsReading e (read (last_of front) at)
    → with_front front (many read (count - i) (last_of front) at) ≡ total → FailsReading e total
unfolding many
ends read refusals.NoMemory front count i at total lt h so_far = tt
ends read (refusals.BadFrame f) front count i at total lt h so_far =
    let k : count - i ≡ suc (count - (i + 1)) = omega arith in
    let one : with_front front (many read (count - i) (last_of front) at) ≡ Err f = rw (k, h) refl in
    sym so_far ∙ one
ends read e front count i at total lt h so_far = absurd h

pub is_done : {X : Type 0} (read : Option X → Place → Read X) (front : List X) (count i : ℕ) (at : Place) (total : Read (List X)) → count ≤ i
    → with_front front (many read (count - i) (last_of front) at) ≡ total → total ≡ Ok (front, at)
unfolding many
is_done {X = X} read front count i at total le so_far =
    let k : count - i ≡ 0 = omega arith in
    let one : with_front front (many read (count - i) (last_of front) at) ≡ Ok (front, at) = rw k (ap (λ (xs : List X). Ok (xs, at)) (append-nil front)) in
    sym so_far ∙ one

-- ---- both ways

-- what a counted list took
pub record TakesMany {X : Type 0} (spell : X → List ℕ) (Follows : Option X → X → Type 0) (count : ℕ) (before : Option X) (at : Place) (xs : List X) (after : Place) : Type 0 where
  pub takes : Takes at (flat_map spell xs) after
  pub len : length xs ≡ count
  pub chain : Chain Follows before xs

-- what one element took
pub record TakesOne {X : Type 0} (spell : X → List ℕ) (Follows : Option X → X → Type 0) (before : Option X) (at : Place) (x : X) (after : Place) : Type 0 where
  pub takes : Takes at (spell x) after
  pub follows : Follows before x

pub many_if : {X : Type 0} (read : Option X → Place → Read X) (spell : X → List ℕ) (Follows : Option X → X → Type 0)
    → ((before : Option X) (at : Place) → IsBytes at.rest → IfRead (read before at) (TakesOne spell Follows before at))
    → (count : ℕ) (before : Option X) (at : Place) → IsBytes at.rest → IfRead (many read count before at) (TakesMany spell Follows count before at)
unfolding many
many_if read spell Follows one zero before at fits = done_if (record { takes = record { parts = refl; place = omega arith }; len = refl; chain = tt })
many_if read spell Follows one (suc n) before at fits =
    bind_if (λ first. many read n (Some first.0) first.1 >>= λ others. Ok (first.0 ∷ others.0, others.1)) (one before at fits) (λ x middle t.
    bind_if (λ others. Ok (x ∷ others.0, others.1)) (many_if read spell Follows one n (Some x) middle (IsBytes-after (spell x) fits t.takes)) (λ xs after u.
    done_if (record { takes = Takes-then (spell x) (flat_map spell xs) t.takes u.takes; len = ap suc u.len; chain = (t.follows, u.chain) })))

pub many_again : {X : Type 0} (read : Option X → Place → Read X) (spell : X → List ℕ) (Follows : Option X → X → Type 0)
    → ((before : Option X) (o : ℕ) (x : X) (rest : List ℕ) → Follows before x → read before (place o (spell x ++ rest)) ≡ Ok (x, place (o + length (spell x)) rest))
    → (before : Option X) (o : ℕ) (xs : List X) (rest : List ℕ) → Chain Follows before xs
    → many read (length xs) before (place o (flat_map spell xs ++ rest)) ≡ Ok (xs, place (o + length (flat_map spell xs)) rest)
unfolding many
many_again read spell Follows one before o [] rest chain = ap (λ (n : ℕ). Ok ([], place n rest)) (omega arith)
many_again {X = X} read spell Follows one before o (x ∷ xs) rest chain =
    let regrouped : place o ((spell x ++ flat_map spell xs) ++ rest) ≡ place o (spell x ++ (flat_map spell xs ++ rest)) = ap (place o) (append_assoc (spell x) (flat_map spell xs) rest) in
    let first = one before o x (flat_map spell xs ++ rest) chain.0 in
    let others = many_again read spell Follows one (Some x) (o + length (spell x)) xs rest chain.1 in
    let end : o + length (spell x) + length (flat_map spell xs) ≡ o + length (spell x ++ flat_map spell xs) = omega (arith, length-append (spell x) (flat_map spell xs)) in
    ap (many read (suc (length xs)) before) regrouped ∙ rw (first, others) (ap (λ (n : ℕ). Ok (x ∷ xs, place n rest)) end)

-- what `last` of a slice answers, seen by a function, is the last of what the function makes
pub last_seen : {A B : Type 0} (f : A → B) (o : Option (Bor A)) (xs : List A) → option_copied o ≡ slice_get xs (length xs - 1) → option_map (λ e. f e.now) o ≡ last_of (map f xs)
last_seen f o xs h = seen f o ∙ ap (option_map f) h ∙ last_of-map f xs
  where
    seen : {A B : Type 0} (f : A → B) (o : Option (Bor A)) → option_map (λ e. f e.now) o ≡ option_map f (option_copied o)
    seen f None = refl
    seen f (Some e) = refl

    last_of-map : {A B : Type 0} (f : A → B) (xs : List A) → option_map f (slice_get xs (length xs - 1)) ≡ last_of (map f xs)
    last_of-map f [] = refl
    last_of-map f (x ∷ []) = refl
    last_of-map f (x ∷ y ∷ ys) =
        let before : length (x ∷ y ∷ ys) - 1 ≡ suc (length (y ∷ ys) - 1) = omega arith in
        rw before (last_of-map f (y ∷ ys))
