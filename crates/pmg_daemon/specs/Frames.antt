-- The bytes and frames that a daemon gets from other nodes, and the frames that it takes for them.
use Rattle.std.specs.Prelude.{◌≡◌, ◌≢◌, ◌↔◌, ◌⊎◌, ℕ, ◌+◌, List, [], ◌∷◌, Option, Some, None, Result, Ok, Err, IfErr, IfSome, OnErr, OnOk, slice_set}
use Rattle.pmg_value.specs.Refusals.{cause_name, number_of}
use Rattle.pmg_value.specs.declared.refusal.Fault.{Fault}
use Rattle.pmg_value.specs.declared.refusal.Refusal.{Refusal}
use Rattle.pmg_value.specs.declared.refusal.Refusal.TheVariants as refusals
use Rattle.pmg_frame.specs.Streams.{FeedsOpen, IsFeedRefusal, IsPastEnd}
use Rattle.pmg_frame.specs.Versions.{frame_spelling}
use Rattle.pmg_node.specs.Acting.{reply_as}
use Rattle.pmg_node.specs.declared.act.Reply.{Reply as GivenReply}
use Rattle.pmg_node_model.specs.declared.sent.Sent.{Sent}
use Rattle.pmg_link.specs.Links.{DeliversNext}
use Rattle.pmg_link.specs.declared.inbox.Inbox.{Inbox}
use Rattle.pmg_daemon.specs.Codes.{Fills, reply_code}
use Rattle.pmg_daemon.specs.declared.codes.TheConstants.{DONE, IDLE, NO_MEMORY, REFUSED}
use Rattle.pmg_daemon.specs.declared.daemon.Daemon.{Daemon}

-- the code of an answer without a result
abbrev pub done_code : Result (Unit {0}) Refusal → ℕ
done_code (Ok u) = DONE
done_code (Err e) = REFUSED + number_of e

-- the code for a missing node
abbrev pub no_node_code : ℕ
no_node_code = REFUSED + number_of refusals.BadParam

-- the named processes, and the kept reply, stay
pub record KeepsReply (d e : Daemon) : Type 0 where
  pub list : e.list ≡ d.list
  pub reply : e.reply ≡ d.reply

-- ---- bytes of other nodes

-- An inbox is fed the bytes, with that answer.
pub record FeedsInbox (i : Inbox) (bytes : List ℕ) (answer : Result (Unit {0}) Refusal) (j : Inbox) : Type 0 where
  pub fed : OnOk answer (FeedsOpen i.stream bytes j.frames.items j.fault j.stream)
  pub idle : OnOk answer (i.frames.items ≡ [])
  pub closed : (answer ≡ Err refusals.Closed) ↔ (i.stream ≡ None)
  pub busy : answer ≡ Err refusals.Busy → i.frames.items ≢ []
  pub waits : i.frames.items ≢ [] → IfSome i.stream (λ _. answer ≡ Err refusals.Busy)
  pub too_many : answer ≡ Err refusals.TooMany → IsPastEnd i.stream bytes
  pub no_other : IfErr answer (λ e. (e ≡ refusals.Busy) ⊎ IsFeedRefusal e)
  pub err : OnErr answer (j ≡ i)

-- The inbox of that node is fed, if there is one; the code is the code of the answer.
abbrev pub FeedsFrom : Option Inbox → Daemon → ℕ → List ℕ → ℕ → Daemon → Type 0
FeedsFrom None d from bytes code e = (code ≡ no_node_code) × (e ≡ d)
FeedsFrom (Some i) d from bytes code e =
    (j : Inbox) × (answer : Result (Unit {0}) Refusal) × FeedsInbox i bytes answer j × (code ≡ done_code answer) × (e.inboxes.items ≡ slice_set d.inboxes.items from j) × (e.link ≡ d.link) × KeepsReply d e

-- the code of the next frame's delivery, if a frame waits
abbrev pub delivered_code : Option GivenReply → ℕ
delivered_code (Some r) = reply_code (reply_as r)
delivered_code None = IDLE

-- The next frame of that node is delivered, if there is such a node; the code is the code of the delivery. NoMemory leaves everything.
abbrev pub DeliversFrom : Option Inbox → Daemon → ℕ → ℕ → Daemon → Type 0
DeliversFrom None d from code e = (code ≡ no_node_code) × (e ≡ d)
DeliversFrom (Some i) d from code e =
    (code ≡ NO_MEMORY → (e.link ≡ d.link) × (e.inboxes.items ≡ d.inboxes.items) × KeepsReply d e)
    × (code ≢ NO_MEMORY → (j : Inbox) × (reply : Option GivenReply) × DeliversNext i j d.link e.link reply × (code ≡ delivered_code reply) × (e.inboxes.items ≡ slice_set d.inboxes.items from j) × KeepsReply d e)

-- ---- bytes for other nodes

-- The next frame's bytes go into the buffer, and it waits no more. A frame that does not fit continues to wait.
pub record TakesFrame (s : Sent) (d : Daemon) (to : ℕ) (buffer : List ℕ) (len code : ℕ) (e : Daemon) (new_to : ℕ) (new_buffer : List ℕ) (new_len : ℕ) : Type 0 where
  pub bytes : Fills (frame_spelling 2 s.frame) buffer len code new_buffer new_len
  pub node : code ≡ DONE → new_to ≡ s.to
  pub taken : code ≡ DONE → d.link.waiting ≡ s ∷ e.link.waiting
  pub rest : code ≡ DONE → (e.link.node ≡ d.link.node) × (e.link.caches ≡ d.link.caches) × (e.link.joined ≡ d.link.joined)
  pub kept : code ≢ DONE → (e ≡ d) × (new_to ≡ to)
  pub inboxes : e.inboxes ≡ d.inboxes
  pub same : KeepsReply d e

-- the next frame is taken, if one waits; otherwise everything stays
abbrev pub TakesNext : Option Sent → Daemon → ℕ → List ℕ → ℕ → ℕ → Daemon → ℕ → List ℕ → ℕ → Type 0
TakesNext (Some s) d to buffer len code e new_to new_buffer new_len = TakesFrame s d to buffer len code e new_to new_buffer new_len
TakesNext None d to buffer len code e new_to new_buffer new_len = (code ≡ IDLE) × (e ≡ d) × (new_to ≡ to) × (new_buffer ≡ buffer) × (new_len ≡ len)

-- ---- faults

-- The fault of a node's bytes goes out: its offset, and its cause's name; idle if they have no fault.
abbrev pub TellsFault : Option Fault → ℕ → List ℕ → ℕ → ℕ → ℕ → List ℕ → ℕ → Type 0
TellsFault (Some f) offset buffer len code new_offset new_buffer new_len = (new_offset ≡ f.offset) × Fills (cause_name f.cause) buffer len code new_buffer new_len
TellsFault None offset buffer len code new_offset new_buffer new_len = (code ≡ IDLE) × (new_offset ≡ offset) × (new_buffer ≡ buffer) × (new_len ≡ len)

-- the fault of the node of that index goes out, if there is such a node
abbrev pub TellsFaultFrom : Option Inbox → ℕ → List ℕ → ℕ → ℕ → ℕ → List ℕ → ℕ → Type 0
TellsFaultFrom (Some i) offset buffer len code new_offset new_buffer new_len = TellsFault i.fault offset buffer len code new_offset new_buffer new_len
TellsFaultFrom None offset buffer len code new_offset new_buffer new_len = (code ≡ no_node_code) × (new_offset ≡ offset) × (new_buffer ≡ buffer) × (new_len ≡ len)
