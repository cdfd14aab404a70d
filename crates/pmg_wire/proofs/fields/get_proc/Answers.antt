use Rattle.std.proofs.Common.{sym, ap, ◌∙◌}
use Rattle.std.proofs.lemmas.Result.{err_from_is_err_and}
use Rattle.pmg_wire.specs.Fields.{read_proc}
use Rattle.pmg_wire.proofs.Steps.{fails_as_due}
use Rattle.pmg_wire.proofs.FieldLaws.{proc_if, proc_only}
use Rattle.pmg_wire.proofs.fields.get_proc.Goals as goal

pub returns-in_err-process-clause-only : goal.returns-in_err-process-clause-only
returns-in_err-process-clause-only c = λ p after s.
    let err = err_from_is_err_and c.from_residual.result c.from_residual.ensures.1 in
    rw (err.1, err.2) (fails_as_due c.in_err-process.field-0.0 (read_proc c.args.admits c.fork-ahead.result) _ c.in_err-process.ensures (ap (read_proc c.args.admits) c.fork-ahead.ensures.place ∙ proc_only c.args.admits c.args.at.now p after s))

pub returns-clause-found : goal.returns-clause-found
returns-clause-found c = (proc_if c.args.admits c.args.at.now c.fork-ahead.ensures.bytes).holds c.in_ok-process.process c.proc_of.new.at (ap (read_proc c.args.admits) (sym c.fork-ahead.ensures.place) ∙ c.in_ok-process.ensures)

pub returns-clause-only : goal.returns-clause-only
returns-clause-only c = λ p after s. sym (proc_only c.args.admits c.args.at.now p after s) ∙ (ap (read_proc c.args.admits) (sym c.fork-ahead.ensures.place) ∙ c.in_ok-process.ensures)
