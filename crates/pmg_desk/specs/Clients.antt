-- The meaning of clients in contracts.
use Rattle.std.specs.Prelude.{◌≡◌, ◌⊎◌, ℕ, Bool, false, List, Some, Result, Ok, Err, refl}
use Rattle.std.specs.Coded.{Coded, code_by, coded×, coded_ℕ}
use mathlib.Core.List.{IsPrefix}
use Rattle.pmg_value.specs.Signatures.{FenceName}
use Rattle.pmg_value.specs.declared.process.Proc.{Proc}
use Rattle.pmg_value.specs.declared.refusal.Refusal.{Refusal}
use Rattle.pmg_scope.specs.Cached.{Cached, Unsealed, no_puts, unsealed_of}
use Rattle.pmg_jobinfo.specs.Jobs.{Jobs, coded_jobs}
use Rattle.pmg_fence.specs.Tables.{fence_of}
use Rattle.pmg_history.specs.Entries.{Entries}
use Rattle.pmg_publish.specs.Publications.{Publications}
use Rattle.pmg_node_model.specs.Acts.{Act, Reply, Request, signature_of}
use Rattle.pmg_node.specs.Replies.{release_reply}
use Rattle.pmg_node.specs.declared.leaving.Release.{Release}
use Rattle.pmg_node.specs.declared.leaving.Release.TheVariants as releases
use Rattle.pmg_node.specs.Servers.{reply_in}
use Rattle.pmg_journal.specs.Knowing.{GoesOnBy, happened_by}
use Rattle.pmg_journal.specs.Replays.{Happening, happening}
use Rattle.pmg_journal.specs.declared.journal.Event.{Event}
use Rattle.pmg_desk.specs.Telling.{IsKnown, WasReadyAt, call_at, fence_of_call}
use Rattle.pmg_journal.specs.Transcripts.{Calling, Noted, NotesCall, cached_after, noted_in, waits_after}
use Rattle.pmg_journal.specs.declared.transcript.Transcript.{Transcript}

-- A client: the group and the index of its node, its viewer's knowledge of the node's publications, its knowledge of the node's journal,
-- and its calls.
pub record Client : Type 0 where
  pub jobs : Jobs
  pub node : ℕ
  pub viewer : Publications
  pub known : Entries Event
  pub transcript : Transcript

-- a client as a tuple, by the codes of its viewer's knowledge, of its knowledge of the journal, and of its transcript
abbrev pub coded_client : Coded Publications → Coded (Entries Event) → Coded Transcript → Coded Client
coded_client viewer known transcript =
    code_by (Jobs × (ℕ × (Publications × (Entries Event × Transcript)))) (coded× coded_jobs (coded× coded_ℕ (coded× viewer (coded× known transcript))))
    (λ c. (c.jobs, (c.node, (c.viewer, (c.known, c.transcript)))))
    (λ p. record { jobs = p.0; node = p.1.0; viewer = p.1.1.0; known = p.1.1.1.0; transcript = p.1.1.1.1 }) (λ _. refl)

-- its process
abbrev pub proc_of : Client → Proc
proc_of c = c.transcript.proc

-- its puts
abbrev pub puts_of : Client → Cached
puts_of c = cached_after no_puts (noted_in c.transcript)

-- its puts that no commit sealed
abbrev pub batch_of : Client → Unsealed
batch_of c = unsealed_of (puts_of c)

-- a call of it waits
abbrev pub is_waiting : Client → Bool
is_waiting c = waits_after false (noted_in c.transcript)

-- its knowledge of the journal of its node
abbrev pub journal_of : Client → List Happening
journal_of c = happened_by c.known

-- the client later: at its node, of its process; it keeps all its knowledge of the publications and of the journal
pub record IsLater (c d : Client) : Type 0 where
  pub jobs : d.jobs ≡ c.jobs
  pub node : d.node ≡ c.node
  pub proc : proc_of d ≡ proc_of c
  pub book : d.viewer.book ≡ c.viewer.book
  pub seen : IsPrefix c.viewer.log d.viewer.log
  pub journal : IsPrefix (journal_of c) (journal_of d)

-- the client's transcript has the call with its reply at its end
abbrev pub ClientNotes : Client → Client → Calling → {X : Type 0} → (X → Reply) → Result X Refusal → Type 0
ClientNotes c d call view answer = NotesCall (noted_in c.transcript) (noted_in d.transcript) call view answer

-- after the entry of a fence with this answer: its leave is noted if the fence was entered, else nothing more
abbrev pub NotesLeave : List Noted → List Noted → Calling → Result ℕ Refusal → Result Release Refusal → Type 0
NotesLeave old new leave (Ok instance) result = NotesCall old new leave release_reply result
NotesLeave old new leave (Err e) result = (result ≡ Err e) × (new ≡ old)

-- A fence is in the transcript as its entry and its leave.
abbrev pub NotesFence : Client → Client → List Proc → Bool → Result Release Refusal → Type 0
NotesFence c d list collect result =
    (mid : List Noted) × (entry : Result ℕ Refusal)
    × NotesCall (noted_in c.transcript) mid (Calling.request (Request.enter (proc_of c) list collect)) Reply.entered entry
    × NotesLeave mid (noted_in d.transcript) (Calling.request (Request.leave (proc_of c))) entry result

-- The client knows more of the journal of its node: its earlier knowledge, then the acts of others, and then its own act with this reply.
-- It also knows the board that this journal publishes.
pub record Tells (c d : Client) (act : Act) (reply : Reply) : Type 0 where
  pub goes_on : GoesOnBy (proc_of c) (journal_of c) (journal_of d) (happening act reply)
  pub knows : IsKnown d.jobs d.node (journal_of d) d.viewer.log

-- at the end of its knowledge of the journal, the client's process is in the fence, or is released from it
abbrev pub IsInFence : Client → FenceName → Type 0
IsInFence c f = fence_of_call (call_at c.jobs c.node (journal_of c) (proc_of c)) ≡ Some f

-- the client's process was released from the fence when it was ready
abbrev pub KnowsReady : Client → FenceName → List Proc → Type 0
KnowsReady d f gone = WasReadyAt d.jobs d.node (proc_of d) f gone (journal_of d) d.viewer.log

-- a released client was released from the fence that it was in, of that instance
abbrev pub ReleasedFrom : Client → Client → Release → Type 0
ReleasedFrom c d (releases.Released instance gone) = (f : FenceName) × IsInFence c f × (f.instance ≡ instance) × KnowsReady d f gone.items
ReleasedFrom c d releases.Idle = Unit {0}
ReleasedFrom c d releases.Waiting = Unit {0}

-- the fence of the list of that instance
abbrev pub listed_fence : Client → List Proc → Bool → ℕ → FenceName
listed_fence c list collect instance = fence_of (signature_of c.jobs (proc_of c) list collect) instance

-- a released client was released from the fence of this list
abbrev pub ReleasedFromOwn : Client → List Proc → Bool → Release → Type 0
ReleasedFromOwn d list collect (releases.Released instance gone) = KnowsReady d (listed_fence d list collect instance) gone.items
ReleasedFromOwn d list collect releases.Idle = Unit {0}
ReleasedFromOwn d list collect releases.Waiting = Unit {0}

-- The knowledge of a client that meets in a fence: it knows its entry, if the entry was refused; else its entry and then its leave.
abbrev pub TellsFence : Client → Client → List Proc → Bool → Result Release Refusal → Type 0
TellsFence c d list collect result =
    (Tells c d (Act.request (Request.enter (proc_of c) list collect)) (reply_in release_reply result))
    ⊎ ((mid : Client) × (instance : ℕ) × Tells c mid (Act.request (Request.enter (proc_of c) list collect)) (Reply.entered instance)
    × Tells mid d (Act.request (Request.leave (proc_of c))) (reply_in release_reply result))
