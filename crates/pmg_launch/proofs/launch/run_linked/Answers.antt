use Rattle.std.specs.Prelude.{IfErr, vec_len}
use Rattle.std.proofs.Common.{rules, ◌≡◌, List, Result, Err, refl, sym, subst}
use Rattle.pmg_value.specs.declared.refusal.Refusal.{Refusal}
use Rattle.pmg_journal.specs.declared.transcript.Transcript.{Transcript}
use Rattle.pmg_audit.specs.Faults.{IsFault}
use Rattle.pmg_audit.specs.OneRun.{IsOneRun}
use Rattle.pmg_launch.specs.Audited.{IsLaunchRefusal}
use Rattle.pmg_launch.specs.declared.launch.Outcome.{Outcome}
use Rattle.pmg_launch.proofs.LaunchLemmas.{launch_fault, launch_outcome}
use Rattle.pmg_launch.proofs.launch.run_linked.Goals as goal

pub returns-in_err-run-clause-refused : goal.returns-in_err-run-clause-refused
returns-in_err-run-clause-refused g c =
    let u = c.in_ok-reports.field-0 in
    let e : Refusal = c.in_err-run.field-0.0 in
    let is : c.from_residual-in_err-run.result ≡ Err e = search rules in
    let transcripts : c.deref.result.now ≡ u.transcripts.items = search rules in
    let fault : IsFault u.records.items u.transcripts.items e = subst (λ (ts : List Transcript). IsFault u.records.items ts e) transcripts c.in_err-run.ensures.refused in
    subst (λ (r : Result Outcome Refusal). IfErr r (IsLaunchRefusal c.args.job (vec_len c.args.programs))) (sym is)
    (launch_fault c.args.job (vec_len c.args.programs) c.in_ok-reports.ensures.full u c.in_ok-reports.ensures.ok e fault)

pub returns-clause-audited : goal.returns-clause-audited
returns-clause-audited g c =
    let u = c.in_ok-reports.field-0 in
    let o : Outcome = record { reports = u.reports; run = c.in_ok-run.run' } in
    let transcripts : c.deref.result.now ≡ u.transcripts.items = search rules in
    let one : IsOneRun u.records.items u.transcripts.items o.run = subst (λ (ts : List Transcript). IsOneRun u.records.items ts o.run) transcripts c.in_ok-run.ensures.ok in
    launch_outcome c.args.job u c.in_ok-reports.ensures.ok o refl one
