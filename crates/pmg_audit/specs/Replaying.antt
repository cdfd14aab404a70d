-- Journals of the code that are replayed, and the progress of the replay.
use Rattle.std.specs.Prelude.{◌≡◌, ◌⊎◌, ℕ, ◌+◌, ◌<◌, Bool, true, false, List, [], ◌∷◌, ◌++◌, length, map, Some, slice_get, slice_index_or, if◌then◌else◌}
use Rattle.std.specs.List.{filter}
use Rattle.pmg_value.specs.Lists.{Each}
use Rattle.pmg_value.specs.declared.process.Proc.{Proc}
use Rattle.pmg_value.specs.declared.refusal.Refusal.{Refusal}
use Rattle.pmg_value.specs.declared.refusal.Refusal.TheVariants as refusals
use Rattle.pmg_jobinfo.specs.Jobs.{Jobs, home_of}
use Rattle.pmg_node_model.specs.declared.sent.Sent.{Sent}
use Rattle.pmg_node.specs.Opening.{new_server}
use Rattle.pmg_node.specs.Servers.{Server, after, reply_to, sent_by}
use Rattle.pmg_journal.specs.Calling.{caller_of, free_at, is_by}
use Rattle.pmg_journal.specs.Journals.{happened_in}
use Rattle.pmg_journal.specs.Records.{IsStep}
use Rattle.pmg_journal.specs.Replays.{Happening, IsReplay, after_all}
use Rattle.pmg_journal.specs.declared.journal.Journal.{Journal}
use Rattle.pmg_journal.specs.declared.record.Step.{Step}
use Rattle.pmg_journal.specs.declared.transcript.Transcript.{Transcript}
use Rattle.pmg_audit.specs.Agreeing.{AreAgreed, AreSaid, IsSaidBy, MayPut}
use Rattle.pmg_audit.specs.Codes.{all_of, lane_of, audited_put, rest_of}
use Rattle.pmg_audit.specs.Dues.{Due, made_due, due_in}
use Rattle.pmg_audit.specs.Faults.{AreStale}
use Rattle.pmg_audit.specs.Moves.{Move, Put, PutsAt, Replays, server_after, event_in}
use Rattle.pmg_audit.specs.Orders.{moves_at}
use Rattle.pmg_audit.specs.Runs.{AreEnds, AreMoves, ArePut, journal_at}
use Rattle.pmg_audit.specs.Taking.{SomeLeft, lasts_of}
use Rattle.pmg_audit.specs.declared.moves.Lane.{Lane}
use Rattle.pmg_audit.specs.declared.moves.Saying.{Saying}
use Rattle.pmg_audit.specs.declared.replaying.Replay.{Replay}
use Rattle.pmg_audit.specs.declared.replaying.AllReplayed.{AllReplayed}

-- the moves that the process made
abbrev pub moves_by : Proc → List Move → List Move
moves_by p ms = filter (λ (m : Move). is_by p m.act) ms

-- the event after these puts, without sent frames
abbrev pub unsent_move : List Put → Happening → Move
unsent_move puts e = record { puts = puts; act = e.act; reply = e.reply; frames = [] }

-- the move, with these frames appended to its sent ones
abbrev pub sent_more : Move → List Sent → Move
sent_more m frames = record { puts = m.puts; act = m.act; reply = m.reply; frames = m.frames ++ frames }

-- the event as the server performs it, after these puts
abbrev pub move_by : Server → List Put → Happening → Move
move_by s puts e = record { puts = puts; act = e.act; reply = e.reply; frames = sent_by s e.act }

-- these are the puts before the event, as its caller claims, and the claim is matched
pub record TakesPuts (s : Server) (old : List Saying) (e : Happening) (puts : List Put) (new : List Saying) : Type 0 where
  pub at : PutsAt s (caller_of e.act) puts
  pub rests : (p : Proc) → rest_of old p ≡ (if is_by p e.act then made_due puts e.act e.reply ∷ rest_of new p else rest_of new p)
  pub lasts : lasts_of new ≡ lasts_of old

-- the server is the node of that index in the group, and the flag says whether the caller, if there is one, is free there
pub record IsWhere (jobs : Jobs) (node : ℕ) (free : Bool) (e : Happening) (s : Server) : Type 0 where
  pub group : s.jobs ≡ jobs
  pub index : s.id ≡ node
  pub free_is : free ≡ free_at s (caller_of e.act)

-- the effect of the event on the replay
pub record IsAdded (r : Replay) (puts : List Put) (e : Happening) (r2 : Replay) : Type 0 where
  pub node : r2.node ≡ after r.node e.act
  pub lane : lane_of r2.lane ≡ lane_of r.lane ++ move_by r.node puts e ∷ []
  pub fresh : r2.is_stale ≡ false → (r.is_stale ≡ false) × (reply_to r.node e.act ≡ e.reply)
  pub stale : r2.is_stale ≡ true → (r.is_stale ≡ true) ⊎ (reply_to r.node e.act ≡ e.reply → ⊥)

-- a replay with this progress, in which no reply differed
abbrev pub replay_at : Server → Lane → Replay
replay_at s lane = record { node = s; lane = lane; is_stale = false }

-- these events are replayed, starting at the server, and the claims about them are matched
pub record IsReplayed (s : Server) (old : List Saying) (es : List Happening) (r : Replay) (new : List Saying) : Type 0 where
  pub node : r.node ≡ server_after s (lane_of r.lane)
  pub events : map event_in (lane_of r.lane) ≡ es
  pub fresh : r.is_stale ≡ false → Replays s (lane_of r.lane)
  pub stale : r.is_stale ≡ true → IsReplay s es → ⊥
  pub rests : (p : Proc) → rest_of old p ≡ map due_in (moves_by p (lane_of r.lane)) ++ rest_of new p
  pub home : (p : Proc) → (home_of s.jobs p ≡ s.id → ⊥) → moves_by p (lane_of r.lane) ≡ []
  pub said : AreSaid s (rest_of old) es
  pub lasts : lasts_of new ≡ lasts_of old

-- the node's first journal is at this place
pub record IsJournalOf (js : List Journal) (n place : ℕ) : Type 0 where
  pub journal : Journal
  pub there : slice_get js place ≡ Some journal
  pub node : journal.node ≡ n
  pub tells : happened_in journal ≡ journal_at js n

-- all journals are of nodes of that group
abbrev pub AreOf : Jobs → List Journal → Type 0
AreOf jobs js = Each (λ (j : Journal). j.registry ≡ jobs) js

-- the journals of each other node are equal
abbrev pub KeepsOthers : List Journal → ℕ → List Journal → Type 0
KeepsOthers old node new = (n : ℕ) → (n ≡ node → ⊥) → journal_at new n ≡ journal_at old n

-- the journals of so many nodes are replayed, and the claims about their events are matched
pub record AreReplayed (jobs : Jobs) (js : List Journal) (old : List Saying) (count : ℕ) (r : AllReplayed) (new : List Saying) : Type 0 where
  pub nodes : length r.nodes.items ≡ count
  pub lanes : length r.lanes.items ≡ count
  pub ends : (n : ℕ) (d : Server) → n < count → slice_index_or r.nodes.items n d ≡ server_after (new_server jobs n) (moves_at (all_of r.lanes.items) n)
  pub events : (n : ℕ) → n < count → map event_in (moves_at (all_of r.lanes.items) n) ≡ journal_at js n
  pub fresh : r.is_stale ≡ false → (n : ℕ) → n < count → Replays (new_server jobs n) (moves_at (all_of r.lanes.items) n)
  pub stale : r.is_stale ≡ true → AreStale jobs js
  pub rests : (p : Proc) → rest_of old p ≡ map due_in (moves_by p (moves_at (all_of r.lanes.items) (home_of jobs p))) ++ rest_of new p
  pub said : (n : ℕ) → n < count → AreSaid (new_server jobs n) (rest_of old) (journal_at js n)
  pub lasts : lasts_of new ≡ lasts_of old

-- all journals are replayed, and the transcripts agree
pub record AreWhole (jobs : Jobs) (js : List Journal) (ts : List Transcript) (r : AllReplayed) : Type 0 where
  pub moves : AreMoves jobs js (all_of r.lanes.items)
  pub put : ArePut jobs (all_of r.lanes.items)
  pub agreed : AreAgreed jobs js ts
  pub ends : AreEnds jobs (all_of r.lanes.items) r.nodes.items

-- a process made an event at a node that it does not claim
abbrev pub AreUnsaid : Jobs → List Journal → (Proc → List Due) → Type 0
AreUnsaid jobs js rest = (n : ℕ) × (n < length jobs.nodes) × (AreSaid (new_server jobs n) rest (journal_at js n) → ⊥)

-- ---- the form for clauses

-- a refusal is Collision, for this reason, unless an allocation failed
abbrev pub RefusesFor : Refusal → Type 0 → Type 0
RefusesFor refusals.NoMemory P = Unit {0}
RefusesFor refusals.Collision P = P
RefusesFor e P = ⊥

-- the event is replayed after any earlier replay
unfoldable pub Continues : Replay → List Saying → Happening → Replay → List Saying → Type 0
Continues r ss e r2 ss2 = (s : Server) (first : List Saying) (es : List Happening) → IsReplayed s first es r ss → IsReplayed s first (es ++ e ∷ []) r2 ss2

-- these events are replayed
unfoldable pub HaveHappened : Server → List Saying → List Happening → Replay → List Saying → Type 0
HaveHappened s first es r ss = IsReplayed s first es r ss

-- these events are replayed, as their replies and steps record
unfoldable pub HaveFollowed : Server → List Saying → List Happening → Lane → List Saying → Type 0
HaveFollowed s first es lane ss = HaveHappened s first es (replay_at (after_all s es) lane) ss

-- the event is replayed at any server that gives it this reply and has this step
unfoldable pub IsFollowed : Jobs → ℕ → Lane → List Saying → Happening → Step → Lane → List Saying → Type 0
IsFollowed jobs node lane ss e x lane2 ss2 = (s : Server) → s.jobs ≡ jobs → s.id ≡ node → IsStep s e x → reply_to s e.act ≡ e.reply
    → Continues (replay_at s lane) ss e (replay_at (after s e.act) lane2) ss2

-- at that node, these are the puts before the event, as its caller claims
unfoldable pub TakesPutsAt : Jobs → ℕ → Bool → List Saying → Happening → List Put → List Saying → Type 0
TakesPutsAt jobs node free old e puts new = (s : Server) → IsWhere jobs node free e s → TakesPuts s old e puts new

-- the event is not the next claimed one
unfoldable pub IsUnsaid : Server → List Saying → Happening → Type 0
IsUnsaid s ss e = IsSaidBy s (rest_of ss) (caller_of e.act) e → ⊥

-- the event is not the next claimed one at that node
unfoldable pub IsUnsaidAt : Jobs → ℕ → Bool → List Saying → Happening → Type 0
IsUnsaidAt jobs node free ss e = (s : Server) → IsWhere jobs node free e s → IsUnsaid s ss e

-- some of the events is not claimed
unfoldable pub AllUnsaid : Server → List Saying → List Happening → Type 0
AllUnsaid s ss es = AreSaid s (rest_of ss) es → ⊥

-- the next node's journal is replayed after any earlier ones
unfoldable pub AddsNode : Jobs → List Journal → ℕ → AllReplayed → List Saying → AllReplayed → List Saying → Type 0
AddsNode jobs js n r ss r2 ss2 = (first : List Saying) → AreReplayed jobs js first n r ss → AreReplayed jobs js first (n + 1) r2 ss2

-- some event of some node is not claimed
unfoldable pub SomeUnsaid : Jobs → List Journal → List Saying → Type 0
SomeUnsaid jobs js ss = AreUnsaid jobs js (rest_of ss)

-- the process may make its puts after its last event at its home, among these nodes
abbrev pub MayPutAt : Jobs → List Server → Saying → Type 0
MayPutAt jobs nodes s = (d : Server) → MayPut (slice_index_or nodes (home_of jobs s.proc) d) s.proc (map audited_put s.last_puts.items)

-- each process may make its last puts
abbrev pub AllMayPut : Jobs → List Server → List Saying → Type 0
AllMayPut jobs nodes ss = Each (MayPutAt jobs nodes) ss

-- all journals are replayed, all claims are matched, and the last puts are allowed
pub record AreEnded (jobs : Jobs) (js : List Journal) (first : List Saying) (r : AllReplayed) (ss : List Saying) : Type 0 where
  pub done : AreReplayed jobs js first (length jobs.nodes) r ss
  pub told : Each (λ (s : Saying). s.dues.items ≡ []) ss
  pub last : AllMayPut jobs r.nodes.items ss
  pub fresh : r.is_stale ≡ false

-- some claim is not matched after the replay of all journals
pub record IsLeft (jobs : Jobs) (js : List Journal) (first : List Saying) : Type 0 where
  pub r : AllReplayed
  pub ss : List Saying
  pub done : AreReplayed jobs js first (length jobs.nodes) r ss
  pub left : SomeLeft ss

-- the last puts are not allowed after the replay of all journals
pub record IsBarred (jobs : Jobs) (js : List Journal) (first : List Saying) : Type 0 where
  pub r : AllReplayed
  pub ss : List Saying
  pub done : AreReplayed jobs js first (length jobs.nodes) r ss
  pub barred : AllMayPut jobs r.nodes.items ss → ⊥

-- all claims are matched after the replay of all journals, and the last puts are allowed
pub record IsReplayDone (jobs : Jobs) (js : List Journal) (first : List Saying) : Type 0 where
  pub r : AllReplayed
  pub ss : List Saying
  pub done : AreReplayed jobs js first (length jobs.nodes) r ss
  pub told : Each (λ (s : Saying). s.dues.items ≡ []) ss
  pub last : AllMayPut jobs r.nodes.items ss

-- the refusals of journals and claims that do not agree as a whole
abbrev pub EndsFor : Jobs → List Journal → List Saying → Refusal → Type 0
EndsFor jobs js first refusals.NoMemory = Unit {0}
EndsFor jobs js first refusals.Collision = SomeUnsaid jobs js first ⊎ (IsLeft jobs js first ⊎ IsBarred jobs js first)
EndsFor jobs js first refusals.Stale = IsReplayDone jobs js first × AreStale jobs js
EndsFor jobs js first e = ⊥

-- the journals and the claims agree as a whole
unfoldable pub EndsWell : Jobs → List Journal → List Saying → AllReplayed → Type 0
EndsWell jobs js first r = (ss : List Saying) × AreEnded jobs js first r ss
