-- A node in the program of a daemon: the changes and answers of its calls.
use Rattle.std.specs.Prelude.{◌≡◌, ◌≢◌, ◌⊎◌, ℕ, ◌+◌, ◌<◌, ◌≤◌, List, [], ◌∷◌, ◌++◌, Option, Some, None, Result, Ok, Err, option_and_then, slice_get}
use Rattle.pmg_value.specs.CheckOrder.{first_of}
use Rattle.pmg_value.specs.Refusals.{number_of}
use Rattle.pmg_value.specs.declared.process.Proc.{Proc}
use Rattle.pmg_value.specs.declared.refusal.Refusal.{Refusal}
use Rattle.pmg_value.specs.declared.refusal.Refusal.TheVariants as refusals
use Rattle.pmg_node.specs.Acting.{reply_as}
use Rattle.pmg_node.specs.Members.{known_members_cause, members_known}
use Rattle.pmg_node.specs.Servers.{IsAnswered, reply_in}
use Rattle.pmg_node.specs.declared.act.Reply.{Reply as GivenReply}
use Rattle.pmg_node_model.specs.Acts.{Reply, Status, status_of}
use Rattle.pmg_link.specs.Links.{Linked}
use Rattle.pmg_daemon.specs.Arguments.{AreJudged, and_then, key_said, proc_said}
use Rattle.pmg_daemon.specs.Calls.{ProcCall, said_after, said_due}
use Rattle.pmg_daemon.specs.Codes.{Fills, number_or, reply_code, status_number}
use Rattle.pmg_daemon.specs.declared.codes.TheConstants.{DONE, IDLE, NO_MEMORY, REFUSED}
use Rattle.pmg_daemon.specs.declared.daemon.Daemon.{Daemon}

-- The call of the arguments has this answer: the due one, with its link afterwards; or an allocation failed once the arguments were
-- judged, and nothing changed.
pub record Made (due : Result ProcCall Refusal) (l : Linked) (answer : Result GivenReply Refusal) (m : Linked) : Type 0 where
  pub told : IsAnswered answer → said_due l due ≡ reply_in reply_as answer
  pub after : IsAnswered answer → m ≡ said_after l due
  pub memory : answer ≡ Err refusals.NoMemory → m ≡ l
  pub judged : answer ≡ Err refusals.NoMemory → AreJudged due

-- The call of the arguments is made. Its code is the code of the due reply, the link is the one after the call, and the reply is kept; a
-- refusal leaves the kept reply. NoMemory leaves everything, and comes only once the arguments are judged: bad names, keys and numbers are
-- refused with or without memory. No call changes the frames that wait to be delivered.
pub record Makes (due : Result ProcCall Refusal) (d : Daemon) (code : ℕ) (e : Daemon) : Type 0 where
  pub told : code ≢ NO_MEMORY → code ≡ reply_code (said_due d.link due)
  pub link : code ≢ NO_MEMORY → e.link ≡ said_after d.link due
  pub reply : code < REFUSED → reply_as e.reply ≡ said_due d.link due
  pub refused : REFUSED ≤ code → e.reply ≡ d.reply
  pub memory : code ≡ NO_MEMORY → e.link ≡ d.link
  pub judged : code ≡ NO_MEMORY → AreJudged due
  pub inboxes : e.inboxes ≡ d.inboxes

-- A call that may set a number sets the number of its reply; a refusal leaves the number.
pub record TellsNumber (d : Daemon) (code old new : ℕ) : Type 0 where
  pub told : code < REFUSED → new ≡ number_or old (reply_as d.reply)
  pub kept : REFUSED ≤ code → new ≡ old

-- the list after a valid process was named
abbrev pub NamesNext : Result Proc Refusal → List Proc → List Proc → Type 0
NamesNext (Ok p) old new = new ≡ old ++ p ∷ []
NamesNext (Err e) old new = ⊥

-- why no process was named: an allocation for it failed, or it is invalid
abbrev pub FailsNaming : Result Proc Refusal → ℕ → Type 0
FailsNaming (Ok p) code = code ≡ NO_MEMORY
FailsNaming (Err e) code = code ≡ REFUSED + number_of e

-- A process is named after the earlier ones; or the code is the refusal, and nothing changes.
pub record Names (d : Daemon) (nspace : List ℕ) (rank code : ℕ) (e : Daemon) : Type 0 where
  pub named : code ≡ DONE → NamesNext (proc_said nspace rank) d.list.items e.list.items
  pub refused : code ≢ DONE → FailsNaming (proc_said nspace rank) code
  pub kept : code ≢ DONE → e.list.items ≡ d.list.items
  pub link : e.link ≡ d.link
  pub inboxes : e.inboxes ≡ d.inboxes
  pub reply : e.reply ≡ d.reply

-- The list of named processes is empty then, unless an allocation failed.
pub record TakesList (d : Daemon) (code : ℕ) (e : Daemon) : Type 0 where
  pub taken : code ≢ NO_MEMORY → e.list.items ≡ []
  pub kept : code ≡ NO_MEMORY → e.list ≡ d.list

-- the value in a reply, by its canonical bytes
abbrev pub value_told : Reply → Option (List ℕ)
value_told (Reply.found value) = Some value
value_told _ = None

-- the gone participants in a reply
abbrev pub gone_told : Reply → Option (List Proc)
gone_told (Reply.released n gone) = Some gone
gone_told _ = None

-- the bytes go into the buffer; without bytes everything stays
abbrev pub FillsIfTold : Option (List ℕ) → List ℕ → ℕ → ℕ → List ℕ → ℕ → Type 0
FillsIfTold (Some bytes) old old_len code new new_len = Fills bytes old old_len code new new_len
FillsIfTold None old old_len code new new_len = (code ≡ IDLE) × ((new ≡ old) × (new_len ≡ old_len))

-- a process goes out: its namespace into the buffer, its rank beside it; without a process everything stays
abbrev pub TellsProc : Option Proc → List ℕ → ℕ → ℕ → ℕ → List ℕ → ℕ → ℕ → Type 0
TellsProc (Some p) old old_len old_rank code new new_len new_rank = Fills p.nspace old old_len code new new_len × (new_rank ≡ p.rank)
TellsProc None old old_len old_rank code new new_len new_rank = (code ≡ IDLE) × ((new ≡ old) × ((new_len ≡ old_len) × (new_rank ≡ old_rank)))

-- the participant of that index among the gone ones
abbrev pub gone_at : Reply → ℕ → Option Proc
gone_at r index = option_and_then (λ gone. slice_get gone index) (gone_told r)

-- the members of a set go out, as the canonical bytes of their array; or the code is the refusal, and everything stays
abbrev pub TellsMembers : Result (List ℕ) Refusal → List ℕ → ℕ → ℕ → List ℕ → ℕ → Type 0
TellsMembers (Ok bytes) old old_len code new new_len = Fills bytes old old_len code new new_len
TellsMembers (Err e) old old_len code new new_len = ((code ≡ NO_MEMORY) ⊎ (code ≡ REFUSED + number_of e)) × ((new ≡ old) × (new_len ≡ old_len))

-- the members of a set that a node knows, by the bytes of its name
abbrev pub members_said : Linked → List ℕ → Result (List ℕ) Refusal
members_said l name = and_then (key_said name) (λ k. first_of (known_members_cause l.node.holding.far k) (members_known l.node.holding.far k))

-- the status of a process goes out; or the code is the refusal, and the number stays
abbrev pub TellsStatus : Result Status Refusal → ℕ → ℕ → ℕ → Type 0
TellsStatus (Ok s) old code new = ((code ≡ DONE) × (new ≡ status_number s)) ⊎ ((code ≡ NO_MEMORY) × (new ≡ old))
TellsStatus (Err e) old code new = ((code ≡ NO_MEMORY) ⊎ (code ≡ REFUSED + number_of e)) × (new ≡ old)

-- the status of the process of that name and rank
abbrev pub status_said : Linked → List ℕ → ℕ → Result Status Refusal
status_said l nspace rank = and_then (proc_said nspace rank) (λ p. Ok (status_of l.node.jobs l.node.id l.node.holding p))
