use Rattle.std.proofs.Common.{sym, ap, ◌∙◌}
use Rattle.std.proofs.lemmas.Result.{err_from_is_err_and}
use Rattle.pmg_wire.specs.Fields.{read_key}
use Rattle.pmg_wire.proofs.Steps.{fails_as_due}
use Rattle.pmg_wire.proofs.FieldLaws.{key_if, key_only}
use Rattle.pmg_wire.proofs.fields.get_key.Goals as goal

pub returns-in_err-key-clause-only : goal.returns-in_err-key-clause-only
returns-in_err-key-clause-only c = λ k after s.
    let err = err_from_is_err_and c.from_residual.result c.from_residual.ensures.1 in
    rw (err.1, err.2) (fails_as_due c.in_err-key.field-0.0 (read_key c.fork-ahead.result) _ c.in_err-key.ensures (ap read_key c.fork-ahead.ensures.place ∙ key_only c.args.at.now k after s))

pub returns-clause-found : goal.returns-clause-found
returns-clause-found c = (key_if c.args.at.now c.fork-ahead.ensures.bytes).holds c.in_ok-key.key c.key_of.new.at (ap read_key (sym c.fork-ahead.ensures.place) ∙ c.in_ok-key.ensures)

pub returns-clause-only : goal.returns-clause-only
returns-clause-only c = λ k after s. sym (key_only c.args.at.now k after s) ∙ (ap read_key (sym c.fork-ahead.ensures.place) ∙ c.in_ok-key.ensures)
