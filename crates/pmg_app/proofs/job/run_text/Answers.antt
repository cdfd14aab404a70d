use Rattle.std.proofs.Common.{◌≡◌, length, inl, inr, rules, vec_len}
use Rattle.std.proofs.lemmas.Result.{err_from_is_err_and}
use Rattle.pmg_jobinfo.specs.Procs.{all_procs}
use Rattle.pmg_app.proofs.JobLemmas.{outcome_of, refusal_of}
use Rattle.pmg_app.proofs.job.run_text.Goals as goal

pub returns-in_err-job-clause-refused : goal.returns-in_err-job-clause-refused
returns-in_err-job-clause-refused g c =
    let p = err_from_is_err_and c.from_residual.result c.from_residual.ensures.1 in
    rw (p.1, p.2) (inr (inl (rw c.deref.ensures.value at c.in_err-job.ensures)))

pub returns-clause-outcome : goal.returns-clause-outcome
returns-clause-outcome g c = outcome_of c.run.result c.args.text.items c.in_ok-job.job (rw c.deref.ensures.value at c.in_ok-job.ensures) c.run.ensures.audited

pub returns-clause-refused : goal.returns-clause-refused
returns-clause-refused g c =
    let count : c.len.result ≡ length (all_procs c.in_ok-job.job) = search rules in
    refusal_of c.run.result c.args.text.items c.in_ok-job.job (vec_len c.args.programs) (vec_len c.truncate.new.self) c.len.result count c.truncate.ensures.len
    (rw c.deref.ensures.value at c.in_ok-job.ensures) c.run.ensures.refused
