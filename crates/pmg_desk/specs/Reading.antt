-- The reads of a client.
use Rattle.std.specs.Prelude.{◌≡◌, ◌⊎◌, ℕ, Bool, ◌&&◌, not, false, true, List, MatchBool, Result, Ok, Err, if◌then◌else◌}
use Rattle.std.specs.FinMap as finite
use Rattle.std.specs.Option.{option_map}
use Rattle.pmg_value.specs.CheckOrder.{first_of}
use Rattle.pmg_value.specs.Names.{is_reserved}
use Rattle.pmg_value.specs.Spelling.{spelling}
use Rattle.pmg_value.specs.declared.process.Proc.{Proc}
use Rattle.pmg_value.specs.declared.refusal.Refusal.{Refusal}
use Rattle.pmg_value.specs.declared.refusal.Refusal.TheVariants as refusals
use Rattle.pmg_value.specs.declared.value.Value.{Value}
use Rattle.pmg_commit.specs.Data.{Data, read_at}
use Rattle.pmg_fence.specs.Entering.{same_proc}
use Rattle.pmg_jobinfo.specs.Jobs.{Jobs}
use Rattle.pmg_jobinfo.specs.Reserved.{reserved_value}
use Rattle.pmg_get.specs.Gets.{Seen, resolve}
use Rattle.pmg_get.specs.declared.view.Mode.{Mode}
use Rattle.pmg_get.specs.declared.view.Mode.TheVariants as modes
use Rattle.pmg_publish.specs.Publications.{near_of, far_of}
use Rattle.pmg_node_model.specs.Acts.{Act, Reply, Request, reply_of, target_cause}
use Rattle.pmg_node_model.specs.Holdings.{Get, seen_of}
use Rattle.pmg_node.specs.Replies.{asked_reply}
use Rattle.pmg_node.specs.Servers.{reply_in}
use Rattle.pmg_node.specs.declared.parking.Asked.{Asked}
use Rattle.pmg_node.specs.declared.parking.Asked.TheVariants as askeds
use Rattle.pmg_desk.specs.Clients.{Client, Tells, is_waiting, proc_of, puts_of}
use Rattle.pmg_journal.specs.Transcripts.{Calling, Noted, NotesCall, noted_in}

-- the key is the process's own, and does not belong to the standard
abbrev pub is_own_key : Proc → Get → Bool
is_own_key p get = same_proc p get.target && not (is_reserved get.key)

-- the causes to refuse a read: the causes of the target, if the key is not its own, and a call of it that waits
abbrev pub now_cause : Client → Get → Refusal → Bool
now_cause c get refusals.Busy = is_waiting c
now_cause c get e = not (is_own_key (proc_of c) get) && target_cause c.jobs (proc_of c) get e

-- the visible value of a reserved key: the group's value
abbrev pub reserved_seen : Jobs → ℕ → Get → Seen
reserved_seen jobs id get = Seen.reserved (option_map spelling (reserved_value jobs id get.target get.key))

-- the visible value of the key: its own put, or the value in these stores and in the group
abbrev pub seen_by : Client → Data → Data → Get → Seen
seen_by c near far get =
    if is_own_key (proc_of c) get then Seen.own (finite.get (puts_of c).own get.key) else seen_of c.jobs c.node (read_at near get.target) (read_at far get.target) get

-- the answer is the due one; an allocation may fail
abbrev pub GivesDue : Result Value Refusal → Reply → Type 0
GivesDue (Ok value) due = due ≡ Reply.found (spelling value)
GivesDue (Err refusals.NoMemory) due = Unit {0}
GivesDue (Err e) due = due ≡ Reply.refused e

-- the answer is the due one, or the viewer is closed
abbrev pub IsDueOrClosed : Result Value Refusal → Reply → Type 0
IsDueOrClosed (Err refusals.Closed) due = Unit {0}
IsDueOrClosed answer due = GivesDue answer due

-- a viewer reads the key: it is not the process's own, and does not belong to the standard
abbrev pub is_viewed : Client → Get → Bool
is_viewed c get = not (is_own_key (proc_of c) get) && not (is_reserved get.key)

-- the answer is the due one; if a viewer reads, it may be Closed
abbrev pub IsDueTo : Bool → Result Value Refusal → Reply → Type 0
IsDueTo viewed answer due = MatchBool viewed (IsDueOrClosed answer due) (GivesDue answer due)

-- the read, after the search for causes: the refusal, or the due answer by the viewer's knowledge afterwards
abbrev pub ReadsNow : Client → Client → Get → Result Value Refusal → Result Unit Refusal → Type 0
ReadsNow c d get result (Err e) = result ≡ Err e
ReadsNow c d get result (Ok _) = IsDueTo (is_viewed c get) result (reply_of (resolve (seen_by c (near_of d.viewer.log) (far_of d.viewer.log) get) modes.Now))

-- The result of a read: a refusal if there is a cause. Else it is the answer to a get that waits for nobody, in the board of the
-- publications that the viewer knows afterwards.
abbrev pub IsReadNow : Client → Client → Get → Result Value Refusal → Type 0
IsReadNow c d get result = ReadsNow c d get result (first_of (now_cause c get) tt)

-- ---- gets that may wait

-- a value that is found, as a reply
abbrev pub found_reply : Value → Reply
found_reply v = Reply.found (spelling v)

-- The client knows its question, with this answer at once; or its question, which parked, and then its taking, with this answer.
abbrev pub TellsGet : Client → Client → Get → Mode → Result Value Refusal → Type 0
TellsGet c d get mode result =
    (Tells c d (Act.request (Request.ask (proc_of c) get mode)) (reply_in found_reply result))
    ⊎ ((mid : Client) × Tells c mid (Act.request (Request.ask (proc_of c) get mode)) Reply.parked
    × Tells mid d (Act.request (Request.take (proc_of c))) (reply_in found_reply result))

-- the call that asks for the key
abbrev pub asking_call : Client → Get → Mode → Calling
asking_call c get mode = Calling.request (Request.ask (proc_of c) get mode)

-- after the question of a get with this answer: its taking is noted if it parked, else nothing more
abbrev pub NotesTaking : List Noted → List Noted → Calling → Result Asked Refusal → Result Value Refusal → Type 0
NotesTaking old new take (Ok (askeds.Found value)) result = (result ≡ Ok value) × (new ≡ old)
NotesTaking old new take (Ok askeds.Parked) result = NotesCall old new take found_reply result
NotesTaking old new take (Err e) result = (result ≡ Err e) × (new ≡ old)

-- A get is in the transcript as its question and its taking.
abbrev pub NotesGet : Client → Client → Get → Mode → Result Value Refusal → Type 0
NotesGet c d get mode result =
    (mid : List Noted) × (asked : Result Asked Refusal) × NotesCall (noted_in c.transcript) mid (asking_call c get mode) asked_reply asked
    × NotesTaking mid (noted_in d.transcript) (Calling.request (Request.take (proc_of c))) asked result

-- A get of its own key: refused if a call of it waits, else its last put; as one question in the transcript.
pub record IsOwnGet (c d : Client) (get : Get) (mode : Mode) (result : Result Value Refusal) : Type 0 where
  pub busy : is_waiting c ≡ true → GivesDue result (Reply.refused refusals.Busy)
  pub answer : is_waiting c ≡ false → GivesDue result (reply_of (resolve (Seen.own (finite.get (puts_of c).own get.key)) mode))
  pub noted : NotesCall (noted_in c.transcript) (noted_in d.transcript) (asking_call c get mode) found_reply result
