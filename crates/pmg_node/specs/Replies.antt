-- The answers of a node's calls, as replies.
use Rattle.std.specs.Prelude.{List, Option, Some, None}
use Rattle.pmg_value.specs.Signatures.{FenceName}
use Rattle.pmg_value.specs.Spelling.{spelling}
use Rattle.pmg_value.specs.declared.process.Proc.{Proc}
use Rattle.pmg_get.specs.Gets.{Outcome}
use Rattle.pmg_node_model.specs.Acts.{Reply, Status, reply_of}
use Rattle.pmg_node_model.specs.Holdings.{CallState}
use Rattle.pmg_node_parts.specs.Calls.{answered_in, released_by_fence}
use Rattle.pmg_node.specs.declared.committing.Committed.{Committed}
use Rattle.pmg_node.specs.declared.leaving.Release.{Release}
use Rattle.pmg_node.specs.declared.leaving.Release.TheVariants as releases
use Rattle.pmg_node.specs.declared.asked.Delivery.{Delivery}
use Rattle.pmg_node.specs.declared.asked.Delivery.TheVariants as deliveries
use Rattle.pmg_node.specs.declared.taking.Taking.{Taking}
use Rattle.pmg_node.specs.declared.taking.Taking.TheVariants as takings
use Rattle.pmg_node.specs.declared.parking.Asked.{Asked}
use Rattle.pmg_node.specs.declared.parking.Asked.TheVariants as askings
use Rattle.pmg_node.specs.declared.status.Status.{Status as ToldStatus}
use Rattle.pmg_node.specs.declared.status.Status.TheVariants as statuses

-- the answer to a process that leaves a fence
abbrev pub release_reply : Release → Reply
release_reply releases.Idle = Reply.idle
release_reply releases.Waiting = Reply.waiting
release_reply (releases.Released instance gone) = Reply.released instance gone.items

-- the answer to a process that is not released
abbrev pub stays_reply : Option CallState → Option Reply
stays_reply (Some (CallState.released f gone)) = None
stays_reply (Some (CallState.in_fence f)) = Some Reply.waiting
stays_reply (Some (CallState.parked get)) = Some Reply.idle
stays_reply (Some (CallState.answered get outcome)) = Some Reply.idle
stays_reply (Some (CallState.refreshing get number)) = Some Reply.idle
stays_reply (Some (CallState.refreshed get outcome)) = Some Reply.idle
stays_reply None = Some Reply.idle

-- the answer to a process that is released from this fence, if there is one
abbrev pub freed_reply : Option (FenceName × List Proc) → Reply
freed_reply (Some (f, gone)) = Reply.released f.instance gone
freed_reply None = Reply.idle

-- the answer to the process after its call is over
abbrev pub released_reply : Option CallState → Reply
released_reply (Some s) = freed_reply (released_by_fence s)
released_reply None = Reply.idle

-- the answer to a process that takes an answer
abbrev pub taking_reply : Taking → Reply
taking_reply takings.Idle = Reply.idle
taking_reply takings.Waiting = Reply.waiting
taking_reply (takings.Found value) = Reply.found (spelling value)

-- the answer to a process whose get is not answered
abbrev pub pending_reply : Option CallState → Option Reply
pending_reply (Some (CallState.answered get outcome)) = None
pending_reply (Some (CallState.refreshed get outcome)) = None
pending_reply (Some (CallState.refreshing get number)) = Some Reply.waiting
pending_reply (Some (CallState.parked get)) = Some Reply.waiting
pending_reply (Some (CallState.in_fence f)) = Some Reply.idle
pending_reply (Some (CallState.released f gone)) = Some Reply.idle
pending_reply None = Some Reply.idle

-- the answer to a process whose get has this outcome, if there is one
abbrev pub got_reply : Option Outcome → Reply
got_reply (Some outcome) = reply_of outcome
got_reply None = Reply.idle

-- the answer to the process after its call is over
abbrev pub answered_reply : Option CallState → Reply
answered_reply (Some s) = got_reply (answered_in s)
answered_reply None = Reply.idle

-- the outcome of a delivered frame
abbrev pub delivery_reply : Delivery → Reply
delivery_reply deliveries.Taken = Reply.taken
delivery_reply deliveries.Ignored = Reply.ignored

-- the answer to a process that asks for a key
abbrev pub asked_reply : Asked → Reply
asked_reply (askings.Found value) = Reply.found (spelling value)
asked_reply askings.Parked = Reply.parked

-- the status of a process
abbrev pub status_in : ToldStatus → Status
status_in statuses.Stranger = Status.stranger
status_in statuses.Idle = Status.idle
status_in statuses.InFence = Status.in_fence
status_in statuses.Released = Status.released
status_in statuses.Parked = Status.parked
status_in statuses.Answered = Status.answered
status_in statuses.Ended = Status.ended

-- the result of a commit
abbrev pub committed_reply : Committed → Reply
committed_reply c = Reply.committed c.level

-- the answer to a process that ends
abbrev pub ended_reply : Committed → Reply
ended_reply c = Reply.ended c.level

-- the result of a change of the sets
abbrev pub defined_reply : Committed → Reply
defined_reply c = Reply.defined c.level
