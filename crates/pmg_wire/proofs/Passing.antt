-- Passing over what is read, and making something of it.
use Rattle.std.proofs.Common.{◌≡◌, ℕ, zero, suc, ◌+◌, ◌-◌, ◌<◌, ◌≤◌, List, ◌∷◌, Option, Some, None, Ok, Err, refl, sym, ap, ◌∙◌, arith}
use Rattle.pmg_value.specs.declared.refusal.Fault.{Fault}
use Rattle.pmg_value.specs.declared.refusal.Refusal.{Refusal}
use Rattle.pmg_value.specs.declared.refusal.Refusal.TheVariants as refusals
use Rattle.pmg_wire.specs.Fields.{made, passed}
use Rattle.pmg_wire.specs.Many.{many}
use Rattle.pmg_wire.specs.Reading.{Place, Read, FailsReading}

-- whatever is made of what is read, reading passes over the same
pub passed_made : {X Y : Type 0} (kind : X → Y) (read : Read X) → passed (made kind read) ≡ passed read
passed_made kind (Ok x) = refl
passed_made kind (Err e) = refl

-- what was passed over was read
pub was_passed : {X : Type 0} (read : Read X) (u : Unit {0}) (behind : Place) → passed read ≡ Ok (u, behind) → (x : X) × (read ≡ Ok (x, behind))
was_passed {X = X} (Ok x) u behind e =
    let same : (tt, x.1) ≡ (u, behind) = cc in
    (x.0, ap (λ (z : Unit {0} × Place). Ok (x.0, z.1)) same)
was_passed (Err f) u behind e = absurd cc

was_refused : {X : Type 0} (read : Read X) (f : Fault) → passed read ≡ Err f → read ≡ Err f
was_refused (Ok x) f e = absurd cc
was_refused (Err g) f e = let same : g ≡ f = cc in ap (λ (d : Fault). Err d) same

-- what could not be passed over could not be read
pub fails_passed : {X : Type 0} (e : Refusal) (read : Read X) → FailsReading e (passed read) → FailsReading e read
fails_passed refusals.NoMemory read h = tt
fails_passed (refusals.BadFrame f) read h = was_refused read f h
fails_passed e read h = absurd h

-- what something was made of was read
pub was_made : {X Y : Type 0} (kind : X → Y) (read : Read X) (y : Y) (after : Place) → made kind read ≡ Ok (y, after) → (x : X) × (read ≡ Ok (x, after)) × (kind x ≡ y)
was_made {X = X} {Y = Y} kind (Ok x) y after e =
    let same : (kind x.0, x.1) ≡ (y, after) = cc in
    (x.0, ap (λ (z : Y × Place). Ok (x.0, z.1)) same, ap (λ (z : Y × Place). z.0) same)
was_made kind (Err f) y after e = absurd cc

made_refused : {X Y : Type 0} (kind : X → Y) (read : Read X) (f : Fault) → made kind read ≡ Err f → read ≡ Err f
made_refused kind (Ok x) f e = absurd cc
made_refused kind (Err g) f e = let same : g ≡ f = cc in ap (λ (d : Fault). Err d) same

-- where nothing could be made, nothing could be read
pub fails_made : {X Y : Type 0} (kind : X → Y) (e : Refusal) (read : Read X) → FailsReading e (made kind read) → FailsReading e read
fails_made kind refusals.NoMemory read h = tt
fails_made kind (refusals.BadFrame f) read h = made_refused kind read f h
fails_made kind e read h = absurd h

-- ---- passing over elements, whatever stands before each

same_behind : {X : Type 0} (read : Place → Read X) (n : ℕ) (b c : Option X) (at : Place) → many (λ _. read) n b at ≡ many (λ _. read) n c at
unfolding many
same_behind read zero b c at = refl
same_behind read (suc n) b c at = refl

passes_one : {X : Type 0} (read : Place → Read X) (n : ℕ) (at after : Place) (x : X) → read at ≡ Ok (x, after) → passed (many (λ _. read) (suc n) None at) ≡ passed (many (λ _. read) n (Some x) after)
unfolding many
passes_one {X = X} read n at after x h = rw h (passed_made (λ (xs : List X). x ∷ xs) (many (λ _. read) n (Some x) after))

pub passes_on : {X : Type 0} (read : Place → Read X) (count i : ℕ) (at : Place) (u : Unit {0}) (after : Place) (total : Read (Unit {0})) → i < count
    → passed (read at) ≡ Ok (u, after)
    → passed (many (λ _. read) (count - i) None at) ≡ total
    → passed (many (λ _. read) (count - (i + 1)) None after) ≡ total
passes_on {X = X} read count i at u after total lt h so_far =
    let n = count - (i + 1) in
    let k : count - i ≡ suc n = omega arith in
    let w = was_passed (read at) u after h in
    let one : passed (many (λ _. read) (count - i) None at) ≡ passed (many (λ _. read) n (Some w.0) after) = rw k (passes_one read n at after w.0 w.1) in
    ap (λ (r : Read (List X)). passed r) (same_behind read n None (Some w.0) after) ∙ sym one ∙ so_far

pub passing_ends : {X : Type 0} (read : Place → Read X) (e : Refusal) (count i : ℕ) (at : Place) (total : Read (Unit {0})) → i < count
    → FailsReading e (passed (read at))
    → passed (many (λ _. read) (count - i) None at) ≡ total → FailsReading e total
unfolding many
passing_ends read refusals.NoMemory count i at total lt h so_far = tt
passing_ends read (refusals.BadFrame f) count i at total lt h so_far =
    let k : count - i ≡ suc (count - (i + 1)) = omega arith in
    let w = was_refused (read at) f h in
    let one : passed (many (λ _. read) (count - i) None at) ≡ Err f = rw (k, w) refl in
    sym so_far ∙ one
passing_ends read e count i at total lt h so_far = absurd h

pub passing_is_done : {X : Type 0} (read : Place → Read X) (count i : ℕ) (at : Place) (total : Read (Unit {0})) → count ≤ i
    → passed (many (λ _. read) (count - i) None at) ≡ total → total ≡ Ok (tt, at)
unfolding many
passing_is_done read count i at total le so_far =
    let k : count - i ≡ 0 = omega arith in
    let one : passed (many (λ _. read) (count - i) None at) ≡ Ok (tt, at) = rw k refl in
    sym so_far ∙ one
