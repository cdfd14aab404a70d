use Rattle.std.proofs.Common.{◌≡◌, ◌≢◌, ◌==◌, ◌+◌, ◌-◌, ◌<◌, ℕ, true, List, All, length, take, arith, sym, ◌∙◌, get_or-take}
use Rattle.std.specs.Prelude.{slice_index}
use Rattle.std.proofs.lemmas.Bool.{eq-eqb}
use Rattle.std.proofs.lemmas.List.{get_or_default, length-take}
use Rattle.std.proofs.Transfers.{StopsAt-take}
use Rattle.pmg_store.proofs.input.len_through.Goals as goal

-- none of the first bytes is the byte
none_before : (xs : List ℕ) (byte n : ℕ) → ((k : ℕ) → k < n → (slice_index xs k == byte) ≡ true → ⊥) → All (λ x. x ≢ byte) (take n xs)
none_before xs byte n none k d within same =
    let low : k < n = omega (arith, within, length-take n xs) in
    let there : k < length xs = omega (arith, within, length-take n xs) in
    none k low (eq-eqb (slice_index xs k) byte (sym (get_or-take n xs k d low ∙ get_or_default xs k d 0 there) ∙ same))

pub returns-in-Some-clause-before : goal.returns-in-Some-clause-before
returns-in-Some-clause-before c =
    let at = c.in-Some.at in
    StopsAt-take c.args.bytes.now c.args.byte (at + 1) (omega (arith, c.in-Some.ensures.0.high))
    (none_before c.args.bytes.now c.args.byte (at + 1 - 1) (λ k low is. c.in-Some.ensures.0.before k (omega arith) (omega (arith, low)) is))

pub returns-in-None-clause-before : goal.returns-in-None-clause-before
returns-in-None-clause-before c =
    let all = length c.args.bytes.now in
    StopsAt-take c.args.bytes.now c.args.byte all (omega arith)
    (none_before c.args.bytes.now c.args.byte (all - 1) (λ k low is. c.in-None.ensures k (omega arith) (omega (arith, low)) is))
