-- The result of a job that threads ran: its journals, its reports and its transcripts.
use Rattle.std.specs.Prelude.{◌≡◌, ℕ, ◌+◌, List, [], ◌∷◌, length, map}
use Rattle.pmg_value.specs.declared.process.Proc.{Proc}
use Rattle.pmg_value.specs.declared.refusal.Refusal.{Refusal}
use Rattle.pmg_value.specs.declared.refusal.Refusal.TheVariants as refusals
use Rattle.pmg_jobinfo.specs.Jobs.{AreJobs, Jobs}
use Rattle.pmg_jobinfo.specs.Procs.{all_procs}
use Rattle.pmg_desk.specs.declared.lock.Desk.{Desk}
use Rattle.pmg_journal.specs.Journals.{IsJournal}
use Rattle.pmg_journal.specs.declared.journal.Journal.{Journal}
use Rattle.pmg_journal.specs.declared.transcript.Transcript.{Transcript}
use Rattle.pmg_threads.specs.declared.program.Report.{Report}
use Rattle.pmg_threads.specs.declared.program.Unaudited.{Unaudited}

-- each element of the list fits its index, counted from the index of the first
abbrev pub FitFrom : {X : Type 0} → (ℕ → X → Type 0) → ℕ → List X → Type 0
FitFrom P n [] = Unit {0}
FitFrom P n (x ∷ xs) = P n x × FitFrom P (n + 1) xs

-- there is one element for each node of the group, by index, and each fits its node
pub record OneEach {X : Type 0} (jobs : Jobs) (P : ℕ → X → Type 0) (xs : List X) : Type 0 where
  pub count : length xs ≡ length jobs.nodes
  pub fit : FitFrom P 0 xs

-- the desk belongs to that node of the group
abbrev pub IsDeskOf : Jobs → ℕ → Desk → Type 0
IsDeskOf jobs n d = (d.place.node ≡ n) × (d.place.registry ≡ jobs)

-- the desks of the group's nodes, by index
abbrev pub AreDesks : Jobs → List Desk → Type 0
AreDesks jobs ds = OneEach jobs (IsDeskOf jobs) ds

-- the journal is possible for the group's node: each reply is the reply of a replay
abbrev pub IsNodeJournal : Jobs → ℕ → Journal → Type 0
IsNodeJournal jobs n j = (j.node ≡ n) × (j.registry ≡ jobs) × IsJournal j

-- the journals of the group's nodes, by index
abbrev pub AreNodeJournals : Jobs → List Journal → Type 0
AreNodeJournals jobs js = OneEach jobs (IsNodeJournal jobs) js

-- one report and one transcript for each of the processes, in their order
pub record TellAll (ps : List Proc) (rs : List Report) (ts : List Transcript) : Type 0 where
  pub reports : map (λ (r : Report). r.proc) rs ≡ ps
  pub transcripts : map (λ (t : Transcript). t.proc) ts ≡ ps

-- there are as many programs as the job has processes
abbrev pub IsFull : Jobs → ℕ → Type 0
IsFull jobs programs = programs ≡ length (all_procs jobs)

-- The result of a job that was run: the journal of each node of its group, and a report and a transcript of each process.
pub record IsUnaudited (group : Jobs) (u : Unaudited) : Type 0 where
  pub jobs : AreJobs group
  pub journals : AreNodeJournals group u.records.items
  pub told : TellAll (all_procs group) u.reports.items u.transcripts.items

-- The refusals of a job that was run with so many programs: BadParam if and only if their number is not the number of its processes;
-- Closed or NoMemory.
abbrev pub IsRunRefusal : Jobs → ℕ → Refusal → Type 0
IsRunRefusal jobs programs refusals.NoMemory = Unit {0}
IsRunRefusal jobs programs refusals.BadParam = IsFull jobs programs → ⊥
IsRunRefusal jobs programs refusals.Closed = IsFull jobs programs
IsRunRefusal jobs programs e = ⊥

-- the refusals of the threads of a job's clients
abbrev pub IsCutShort : Refusal → Type 0
IsCutShort refusals.NoMemory = Unit {0}
IsCutShort refusals.Closed = Unit {0}
IsCutShort e = ⊥
