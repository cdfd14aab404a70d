use Rattle.std.proofs.Common.{◌≡◌, ◌==◌, false, length, sym, ◌∙◌}
use Rattle.std.proofs.lemmas.Result.{err_from_is_err_and}
use Rattle.pmg_wire.proofs.WholeLaws.{whole_only, whole_behind, whole_fails}
use Rattle.pmg_wire.proofs.values.value_from_bytes.Goals as goal

pub returns-in_err-value-clause-only : goal.returns-in_err-value-clause-only
returns-in_err-value-clause-only c = λ v is.
    let err = err_from_is_err_and c.from_residual.result c.from_residual.ensures.1 in
    rw (err.1, err.2) (whole_fails c.args.bytes.now v c.in_err-value.field-0.0 is (rw c.of-at.ensures at c.in_err-value.ensures.first_fault))

pub returns-then-not-is_empty-clause-only : goal.returns-then-not-is_empty-clause-only
returns-then-not-is_empty-clause-only c = λ v is.
    let read = rw c.of-at.ensures at c.in_ok-value.ensures.first_fault in
    let some : (length c.get_value.new.at.rest == 0) ≡ false = rw (← c.rest.ensures) (sym c.is_empty.ensures ∙ c.if-not-is_empty.true) in
    rw (c.bad_frame.ensures, c.offset.ensures.value) (sym (whole_only c.args.bytes.now v is) ∙ whole_behind c.args.bytes.now c.in_ok-value.value c.get_value.new.at read some)
