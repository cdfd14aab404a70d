-- The agreement of transcripts with journals.
use Rattle.std.specs.Prelude.{◌≡◌, ◌⊎◌, ℕ, ◌<◌, true, List, [], ◌∷◌, length, Option, Some, None, Ok, if◌then◌else◌}
use Rattle.pmg_value.specs.CheckOrder.{first_of}
use Rattle.pmg_value.specs.Lists.{Each}
use Rattle.pmg_value.specs.declared.process.Proc.{Proc}
use Rattle.pmg_scope.specs.Cached.{no_puts}
use Rattle.pmg_jobinfo.specs.Jobs.{Jobs, home_of}
use Rattle.pmg_fence.specs.Entering.{same_proc}
use Rattle.pmg_node_model.specs.Acts.{free_cause}
use Rattle.pmg_node.specs.Opening.{new_server}
use Rattle.pmg_node.specs.Servers.{Server, after}
use Rattle.pmg_journal.specs.Calling.{caller_of}
use Rattle.pmg_journal.specs.Replays.{Happening, after_all}
use Rattle.pmg_journal.specs.Transcripts.{noted_in}
use Rattle.pmg_journal.specs.declared.journal.Journal.{Journal}
use Rattle.pmg_journal.specs.declared.transcript.Transcript.{Transcript}
use Rattle.pmg_audit.specs.Dues.{Due, due_event, last_puts, dues_of, takes_all}
use Rattle.pmg_audit.specs.Moves.{Put}
use Rattle.pmg_audit.specs.Runs.{TellsOf, journal_at}

-- no two transcripts are of one process
abbrev pub AreOfOtherProcs : List Transcript → Type 0
AreOfOtherProcs [] = Unit {0}
AreOfOtherProcs (t ∷ ts) = Each (λ (u : Transcript). t.proc ≡ u.proc → ⊥) ts × AreOfOtherProcs ts

-- the events that the process claims, by its transcript
abbrev pub said_for : List Transcript → Proc → List Due
said_for [] p = []
said_for (t ∷ ts) p = if same_proc p t.proc then dues_of t else said_for ts p

-- if there are puts, the process is in no call at the server, and has not ended
abbrev pub MayPut : Server → Proc → List Put → Type 0
MayPut s p puts = (puts ≡ []) ⊎ (first_of (free_cause s.jobs s.id s.holding p) (tt {0}) ≡ Ok tt)

-- the first claimed event is this one, and the puts before it are allowed
abbrev pub BeginsWith : Server → Proc → List Due → Happening → Type 0
BeginsWith s p [] e = ⊥
BeginsWith s p (d ∷ ds) e = (due_event d ≡ e) × MayPut s p d.puts

-- the maker of the event is at home at the node, and claims the event
abbrev pub IsSaidBy : Server → (Proc → List Due) → Option Proc → Happening → Type 0
IsSaidBy s rest None e = Unit {0}
IsSaidBy s rest (Some p) e = (home_of s.jobs p ≡ s.id) × BeginsWith s p (rest p) e

-- the claimed events after the first
abbrev pub tail_of : List Due → List Due
tail_of [] = []
tail_of (d ∷ ds) = ds

-- the claims about later events, after the process's next one
abbrev pub rest_after : (Proc → List Due) → Option Proc → Proc → List Due
rest_after rest None q = rest q
rest_after rest (Some p) q = if same_proc q p then tail_of (rest q) else rest q

-- Each event that a process makes at the node is the next event that it claims.
unfoldable pub AreSaid : Server → (Proc → List Due) → List Happening → Type 0
AreSaid s rest [] = Unit {0}
AreSaid s rest (e ∷ es) = IsSaidBy s rest (caller_of e.act) e × AreSaid (after s e.act) (rest_after rest (caller_of e.act)) es

-- the server of the process's home, after all events of its journal
abbrev pub home_after : Jobs → List Journal → Proc → Server
home_after jobs js p = after_all (new_server jobs (home_of jobs p)) (journal_at js (home_of jobs p))

-- the puts of the process after its last event are allowed at its home at the end
abbrev pub MayPutLast : Jobs → List Journal → Transcript → Type 0
MayPutLast jobs js t = MayPut (home_after jobs js t.proc) t.proc (last_puts t)

-- The agreement of transcripts with journals. No two transcripts are of one process, and each client's cache takes the puts that its
-- transcript claims. Each event that a process makes is at its home, and in its transcript. Each transcript claims exactly the events that
-- its process made there. If it claims puts after them, its process was in no call at the end of its home's journal, and had not ended.
pub record AreAgreed (jobs : Jobs) (js : List Journal) (ts : List Transcript) : Type 0 where
  pub apart : AreOfOtherProcs ts
  pub taken : Each (λ (t : Transcript). takes_all no_puts (noted_in t) ≡ true) ts
  pub said : (n : ℕ) → n < length jobs.nodes → AreSaid (new_server jobs n) (said_for ts) (journal_at js n)
  pub calls : Each (TellsOf jobs js) ts
  pub last : Each (MayPutLast jobs js) ts
