-- The meaning of a job's outcome, and the refusals of a job.
use Rattle.std.specs.Prelude.{◌≡◌, ℕ, List, map}
use Rattle.pmg_value.specs.declared.refusal.Refusal.{Refusal}
use Rattle.pmg_value.specs.declared.refusal.Refusal.TheVariants as refusals
use Rattle.pmg_jobinfo.specs.Jobs.{Jobs}
use Rattle.pmg_jobinfo.specs.Procs.{all_procs}
use Rattle.pmg_audit.specs.OneRun.{IsOneRun}
use Rattle.pmg_journal.specs.declared.journal.Journal.{Journal}
use Rattle.pmg_journal.specs.declared.transcript.Transcript.{Transcript}
use Rattle.pmg_threads.specs.Running.{AreNodeJournals, IsFull, IsRunRefusal}
use Rattle.pmg_threads.specs.declared.program.Report.{Report}
use Rattle.pmg_world.specs.Accounts.{Account}
use Rattle.pmg_launch.specs.declared.launch.Outcome.{Outcome}

-- some journals of the job's nodes and some transcripts of its processes, one for each, make that run
pub record IsAudited (jobs : Jobs) (run : Account) : Type 0 where
  pub journals : List Journal
  pub transcripts : List Transcript
  pub nodes : AreNodeJournals jobs journals
  pub procs : map (λ (t : Transcript). t.proc) transcripts ≡ all_procs jobs
  pub one : IsOneRun journals transcripts run

-- A job that was run gives a report of each of its processes, and an audited run of its group.
pub record IsOutcome (jobs : Jobs) (o : Outcome) : Type 0 where
  pub reports : map (λ (r : Report). r.proc) o.reports.items ≡ all_procs jobs
  pub group : o.run.jobs ≡ jobs
  pub audited : IsAudited jobs o.run

-- A job may be refused as it is run, or for a fault that its audit finds: Collision or Unordered. It is never Stale, because a desk
-- records a replay.
abbrev pub IsLaunchRefusal : Jobs → ℕ → Refusal → Type 0
IsLaunchRefusal jobs programs refusals.Collision = IsFull jobs programs
IsLaunchRefusal jobs programs refusals.Unordered = IsFull jobs programs
IsLaunchRefusal jobs programs e = IsRunRefusal jobs programs e
