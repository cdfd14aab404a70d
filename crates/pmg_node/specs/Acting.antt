-- The acts of a node and its replies, as the code names them.
use Rattle.std.specs.Prelude.{◌≡◌, Some, Result, Ok, Err}
use Rattle.pmg_value.specs.Spelling.{spelling}
use Rattle.pmg_value.specs.declared.refusal.Refusal.{Refusal}
use Rattle.pmg_node_model.specs.Acts.{Request, Act, Reply}
use Rattle.pmg_node_parts.specs.Calls.{get_of}
use Rattle.pmg_node.specs.Joining.{Joins, no_joins}
use Rattle.pmg_node.specs.declared.act.Acted.{Acted}
use Rattle.pmg_node.specs.declared.asked.Delivery.{Delivery}
use Rattle.pmg_node.specs.declared.asked.Delivery.TheVariants as deliveries
use Rattle.pmg_node.specs.declared.act.Joined.{Joined}
use Rattle.pmg_node.specs.declared.committing.Committed.{Committed}
use Rattle.pmg_node.specs.declared.act.Request.{Request as AskedRequest}
use Rattle.pmg_node.specs.declared.act.Request.TheVariants as requests
use Rattle.pmg_node.specs.declared.act.Act.{Act as AskedAct}
use Rattle.pmg_node.specs.declared.act.Act.TheVariants as asked
use Rattle.pmg_node.specs.declared.act.Reply.{Reply as GivenReply}
use Rattle.pmg_node.specs.declared.act.Reply.TheVariants as replies

-- a request, as the code names it
abbrev pub request_of : AskedRequest → Request
request_of (requests.Enter p list collect) = Request.enter p list.items collect
request_of (requests.Leave p) = Request.leave p
request_of (requests.Ask mode p target key) = Request.ask p (get_of target key) mode
request_of (requests.Take p) = Request.take p
request_of (requests.Terminate p) = Request.terminate p
request_of (requests.Define name list) = Request.define name list.items
request_of (requests.Delete name) = Request.delete name
request_of requests.Nudge = Request.nudge

-- an act, as the code names it
abbrev pub act_of : AskedAct → Act
act_of (asked.Request r) = Act.request (request_of r)
act_of (asked.Commit p batch) = Act.commit p batch
act_of (asked.Deliver frame) = Act.deliver frame

-- a reply, as the code names it
abbrev pub reply_as : GivenReply → Reply
reply_as replies.Done = Reply.done
reply_as (replies.Committed number) = Reply.committed number
reply_as (replies.Entered instance) = Reply.entered instance
reply_as replies.Idle = Reply.idle
reply_as replies.Waiting = Reply.waiting
reply_as (replies.Released instance gone) = Reply.released instance gone.items
reply_as (replies.Found value) = Reply.found (spelling value)
reply_as replies.Parked = Reply.parked
reply_as replies.Taken = Reply.taken
reply_as replies.Ignored = Reply.ignored
reply_as (replies.Ended number) = Reply.ended number
reply_as (replies.Defined number) = Reply.defined number

-- the reply in the result of an act
abbrev pub acted_reply : Acted → Reply
acted_reply acted = reply_as acted.reply

-- the joined pieces of an act, as the code names them
abbrev pub joins_in : Joined → Joins
joins_in joined = record { near = joined.near; far = joined.far }

-- the joined pieces of a commit
abbrev pub commit_joins : Committed → Joins
commit_joins c = record { near = Some c.near; far = Some c.far }

-- the two answers agree in their reply, and the result of the act has these joined pieces
abbrev pub SameAnswer : {X : Type 0} → (X → Reply) → (X → Joins) → Result X Refusal → Result Acted Refusal → Type 0
SameAnswer view joins (Ok x) (Ok acted) = (view x ≡ acted_reply acted) × (joins_in acted.joined ≡ joins x)
SameAnswer view joins (Err e) (Err f) = e ≡ f
SameAnswer view joins (Ok x) (Err f) = ⊥
SameAnswer view joins (Err e) (Ok acted) = ⊥

-- the two answers agree in their reply
abbrev pub SameReply : {X : Type 0} → (X → Reply) → Result X Refusal → Result GivenReply Refusal → Type 0
SameReply view (Ok x) (Ok reply) = view x ≡ reply_as reply
SameReply view (Err e) (Err f) = e ≡ f
SameReply view (Ok x) (Err f) = ⊥
SameReply view (Err e) (Ok reply) = ⊥

-- an answer that joins nothing
abbrev pub joins_none : {X : Type 0} → X → Joins
joins_none x = no_joins

-- the joined pieces of a frame, if it is taken
abbrev pub delivery_joins : Delivery → Joins → Joins
delivery_joins deliveries.Taken joins = joins
delivery_joins deliveries.Ignored joins = no_joins
