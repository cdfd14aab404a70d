use Rattle.std.proofs.Common.{◌≡◌, ◌%◌, length, rules, sym, subst, ◌∙◌, Ok}
use Rattle.std.specs.Prelude.{IsErr}
use Rattle.hex.specs.Hex.{decode_of}
use Rattle.pmg_commands.specs.Text.{digits_of}
use Rattle.pmg_commands.proofs.TextLemmas.{odd_text, stray_text, clean_text, even_decodes}
use Rattle.pmg_commands.proofs.text.decode_digits.Goals as goal

pub returns-then-len-eq1-clause-fault : goal.returns-then-len-eq1-clause-fault
returns-then-len-eq1-clause-fault c =
    let odd : length (digits_of c.args.text.now) % 2 ≡ 1 = rw (← c.in_ok-digits.ensures) (search rules) in
    rw c.hex_fault.ensures (odd_text c.args.text.now odd)

pub returns-in-Some-clause-bytes : goal.returns-in-Some-clause-bytes
returns-in-Some-clause-bytes c =
    let even : length (digits_of c.args.text.now) % 2 ≡ 0 = rw (← c.in_ok-digits.ensures) (search rules) in
    clean_text c.args.text.now c.in-Some.bytes.items even
    (subst (λ digits. decode_of digits ≡ Ok c.in-Some.bytes.items) (c.deref.ensures.value ∙ c.in_ok-digits.ensures) (rw c.in-Some.is at c.in_ok-bytes.ensures))

pub returns-in-Some-first_stray-clause-fault : goal.returns-in-Some-first_stray-clause-fault
returns-in-Some-first_stray-clause-fault c =
    let even : length (digits_of c.args.text.now) % 2 ≡ 0 = rw (← c.in_ok-digits.ensures) (search rules) in
    rw c.hex_fault-in-Some-first_stray.ensures (stray_text c.args.text.now c.in-Some-first_stray.offset even (sym c.in-Some-first_stray.ensures))

pub unreachable-requires : goal.unreachable-requires
unreachable-requires c =
    let even : length (digits_of c.args.text.now) % 2 ≡ 0 = rw (← c.in_ok-digits.ensures) (search rules) in
    even_decodes c.args.text.now even (sym c.in-None-first_stray.ensures)
    (subst (λ digits. IsErr (decode_of digits)) (c.deref.ensures.value ∙ c.in_ok-digits.ensures) (rw c.in-None.is at c.in_ok-bytes.ensures))
