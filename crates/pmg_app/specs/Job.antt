-- The command `run`.
use Rattle.std.specs.Prelude.{◌≡◌, ◌⊎◌, ◌&&◌, ◌==◌, ℕ, Bool, true, false, List, [], ◌++◌, codes, decimal, is_ok, length, min, slice_get, IfSome, if◌then◌else◌}
use Rattle.std.specs.List.{flat_map, list_all}
use Rattle.std.specs.declared.option.Option.{Option}
use Rattle.std.specs.declared.result.Result.{Result}
use Rattle.std.specs.declared.result.Result.TheVariants.{Ok, Err}
use Rattle.pmg_value.specs.RefusalText.{refusal_text}
use Rattle.pmg_value.specs.declared.process.Proc.{Proc}
use Rattle.pmg_value.specs.declared.refusal.Refusal.{Refusal}
use Rattle.pmg_value.specs.declared.refusal.Refusal.TheVariants as refusals
use Rattle.pmg_store.specs.declared.failure.Failure.{Failure}
use Rattle.pmg_store.specs.declared.failure.Failure.TheVariants.{Refused}
use Rattle.pmg_store.specs.Input.{input_of}
use Rattle.pmg_store.specs.Outcomes.{FailsInput, or_failure}
use Rattle.pmg_jobinfo.specs.Jobs.{Jobs}
use Rattle.pmg_jobinfo.specs.Procs.{all_procs}
use Rattle.pmg_jobfile.specs.Reading.{GivesJob}
use Rattle.pmg_audit.specs.RunDumps.{dump_due}
use Rattle.pmg_world.specs.Accounts.{Account}
use Rattle.pmg_launch.specs.declared.launch.Outcome.{Outcome}
use Rattle.pmg_launch.specs.Audited.{IsLaunchRefusal, IsOutcome}
use Rattle.pmg_threads.specs.declared.program.Report.{Report}
use Rattle.pmg_commands.specs.Output.{Output, IsStatus, Prints, failure_output}

-- the client's program returned no refusal
abbrev pub is_done : Report → Bool
is_done r = is_ok r.answer

-- the answer is NoMemory
abbrev pub is_no_memory : Result (Unit {0}) Refusal → Bool
is_no_memory (Err refusals.NoMemory) = true
is_no_memory answer = false

-- the client's program had no memory for its report: it wrote nothing, and returned NoMemory
abbrev pub is_unreported : Report → Bool
is_unreported r = (length r.text.items == 0) && is_no_memory r.answer

-- a client by its process, as `client j 0`
unfoldable pub client_name : Proc → List ℕ
client_name p = codes "client " ++ (p.nspace ++ codes " ") ++ decimal p.rank

-- a refusal, after the client
unfoldable pub client_refusal : Refusal → List ℕ
client_refusal e = codes " refused " ++ refusal_text e ++ codes "\n"

-- the line of a client without memory for its report, `client j 0 refused 0 NoMemory`
unfoldable pub unreported_line : Proc → List ℕ
unreported_line p = client_name p ++ client_refusal refusals.NoMemory

-- the printed text of a client: the text that its program wrote, or the line of a client without memory for its report
unfoldable pub report_text : Report → List ℕ
report_text r = if is_unreported r then unreported_line r.proc else r.text.items

-- the printed text of the clients, in their order
unfoldable pub reports_text : List Report → List ℕ
reports_text reports = flat_map report_text reports

-- the text; an empty text for a failure
abbrev pub text_due : Result (List ℕ) Failure → List ℕ
text_due (Ok text) = text
text_due (Err failure) = []

-- the far dump of the first node at the end of the run; an empty text if the group has no nodes
abbrev pub far_text : Account → List ℕ
far_text run = text_due (dump_due (slice_get run.nodes 0))

-- the far dump of the first node, and the line `audit ok`
unfoldable pub audited_text : Account → List ℕ
audited_text run = far_text run ++ codes "audit ok\n"

-- the reports, and then the text about the run
unfoldable pub outcome_text : Outcome → List ℕ
outcome_text o = reports_text o.reports.items ++ audited_text o.run

-- 1 if a client's program returned a refusal, else 0
unfoldable pub outcome_status : Outcome → ℕ
outcome_status o = if list_all is_done o.reports.items then 0 else 1

-- a fault that an audit finds
abbrev pub is_audit_fault : Refusal → Bool
is_audit_fault refusals.Collision = true
is_audit_fault refusals.Stale = true
is_audit_fault refusals.Unordered = true
is_audit_fault e = false

-- the line of a fault that an audit found
unfoldable pub audit_line : Refusal → List ℕ
audit_line e = codes "audit fault " ++ refusal_text e ++ codes "\n"

-- the output for a fault that an audit found, with status 4
abbrev pub audit_output : Refusal → Output
audit_output e = record { status = 4; printed = audit_line e }

-- the output for a job without an outcome: the fault that the audit found, with status 4, or the other failure
abbrev pub job_failure : Failure → Output
job_failure (Refused e) = if is_audit_fault e then audit_output e else failure_output (Refused e)
job_failure failure = failure_output failure

-- the output of a job: its outcome, or its failure
abbrev pub job_output : Result Outcome Failure → Output
job_output (Ok o) = record { status = outcome_status o; printed = outcome_text o }
job_output (Err failure) = job_failure failure

-- the statuses of the command
abbrev pub IsJobStatus : ℕ → Type 0
IsJobStatus status = IsStatus status ⊎ (status ≡ 4)

-- The bytes, if they are known, describe the job of that group.
abbrev pub Describes : Option (List ℕ) → Jobs → Type 0
Describes known jobs = IfSome known (λ text. GivesJob text (Ok jobs))

-- The outcome belongs to the job that was read: each of its processes reported, and the run of its group was audited.
pub record IsOutcomeOf (known : Option (List ℕ)) (o : Outcome) : Type 0 where
  pub jobs : Jobs
  pub described : Describes known jobs
  pub outcome : IsOutcome jobs o

-- The job that was read was refused as it ran, with this many programs, or as its run was audited.
pub record IsRefusedRun (known : Option (List ℕ)) (programs : ℕ) (e : Refusal) : Type 0 where
  pub jobs : Jobs
  pub described : Describes known jobs
  pub refusal : IsLaunchRefusal jobs (min programs (length (all_procs jobs))) e

-- The reasons why a job has no outcome: its text was not read, the text is refused as a job, or the job is refused as it runs.
abbrev pub FailsJob : Option (List ℕ) → ℕ → Failure → Type 0
FailsJob known programs (Refused e) =
    IfSome known (λ text. FailsInput (Refused e) (or_failure (input_of text)))
    ⊎ (IfSome known (λ text. GivesJob text (Err e)) ⊎ IsRefusedRun known programs e)
FailsJob known programs failure = IfSome known (λ text. FailsInput failure (or_failure (input_of text)))

-- the result of a job: an outcome of the job that was read, or the failure
abbrev pub ComesOf : Option (List ℕ) → ℕ → Result Outcome Failure → Type 0
ComesOf known programs (Ok o) = IsOutcomeOf known o
ComesOf known programs (Err failure) = FailsJob known programs failure

-- The output of `run` for a job, with its status and with this many programs: the outcome of the job, or its failure.
pub record PrintsJob {E : Type 0} (known : Option (List ℕ)) (programs : ℕ) (old new : Option (List ℕ)) (write : Option E) (status : ℕ) : Type 0 where
  pub result : Result Outcome Failure
  pub comes : ComesOf known programs result
  pub printed : Prints old new write status (job_output result)
