use Rattle.std.proofs.Common.{Err}
use Rattle.pmg_app.proofs.job.run_job.Goals as goal

pub returns-in-Err-clause-printed : goal.returns-in-Err-clause-printed
returns-in-Err-clause-printed g c = record { result = Err c.in-Err.failure; comes = c.in-Err.ensures.refused; printed = c.print_failure.ensures.printed }
