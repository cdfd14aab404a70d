-- Journals and transcripts of one run.
use Rattle.std.specs.Prelude.{◌≡◌, ℕ, ◌<◌, List, [], length, map}
use Rattle.pmg_world.specs.Accounts.{Account, IsAccountLawful, IsRun}
use Rattle.pmg_world.specs.Telling.{happened_of}
use Rattle.pmg_journal.specs.declared.journal.Journal.{Journal}
use Rattle.pmg_journal.specs.declared.transcript.Transcript.{Transcript}
use Rattle.pmg_audit.specs.Agreeing.{AreAgreed}
use Rattle.pmg_audit.specs.Runs.{AreJournals, events_at, journal_at}

-- The account is a run of the model, for which the laws of every run hold. Its events at each node are the node's journal, each once and
-- in its order. Each commit carries its client's puts since the previous one. Journals and transcripts agree: each event that a process
-- made is in the process's only transcript.
pub record IsOneRun (js : List Journal) (ts : List Transcript) (a : Account) : Type 0 where
  pub run : IsRun a
  pub lawful : IsAccountLawful a
  pub journals : AreJournals a.jobs js
  pub events : (n : ℕ) → n < length a.jobs.nodes → events_at a.jobs (λ _. []) a.sent n (map happened_of a.told) ≡ journal_at js n
  pub agreed : AreAgreed a.jobs js ts
