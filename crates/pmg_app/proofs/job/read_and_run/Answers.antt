use Rattle.std.proofs.Common.{vec_len}
use Rattle.std.proofs.lemmas.Result.{err_from_is_err_and}
use Rattle.pmg_app.proofs.JobLemmas.{known_outcome, known_refusal}
use Rattle.pmg_app.proofs.job.read_and_run.Goals as goal

pub returns-in_err-outcome-clause-refused : goal.returns-in_err-outcome-clause-refused
returns-in_err-outcome-clause-refused g c =
    let p = err_from_is_err_and c.from_residual-in_err-outcome.result c.from_residual-in_err-outcome.ensures.1 in
    rw (p.1, p.2) (known_refusal (g.R.Read.remaining c.args.reader.now.reader) c.in_ok-text.text.items (vec_len c.args.programs) c.in_err-outcome.field-0.0
    c.in_ok-text.ensures.input c.in_err-outcome.ensures.refused)

pub returns-clause-outcome : goal.returns-clause-outcome
returns-clause-outcome g c =
    known_outcome (g.R.Read.remaining c.args.reader.now.reader) c.in_ok-text.text.items c.in_ok-outcome.outcome c.in_ok-text.ensures.input c.in_ok-outcome.ensures.outcome
