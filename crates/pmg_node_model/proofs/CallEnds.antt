-- What a process that takes what its call came to, or asks, leaves of the node's state, and what it is told.
use Rattle.std.proofs.Common.{ℕ, List, Option, Some, None}
use Rattle.pmg_value.specs.declared.process.Proc.{Proc}
use Rattle.pmg_get.specs.Gets.{Outcome}
use Rattle.pmg_get.specs.declared.view.Mode.{Mode}
use Rattle.pmg_node_model.specs.Acts.{Reply, leaves, takes, asks, parks, reply_of}
use Rattle.pmg_node_model.specs.Holdings.{Get, CallState, NodeState, uncalled}

-- what holds of the state as it is, and of it without the call, holds once the process leaves its fence, and once it takes its answer
pub ends_left : (h : NodeState) (p : Proc) (P : NodeState → Type 0) → P h → P (uncalled h p) → (c : Option CallState) → P (leaves h p c).left × P (takes h p c).left
ends_left h p P stays over (Some (CallState.in_fence f)) = (stays, stays)
ends_left h p P stays over (Some (CallState.released f gone)) = (over, stays)
ends_left h p P stays over (Some (CallState.parked get)) = (stays, stays)
ends_left h p P stays over (Some (CallState.answered get outcome)) = (stays, over)
ends_left h p P stays over (Some (CallState.refreshing get number)) = (stays, stays)
ends_left h p P stays over (Some (CallState.refreshed get outcome)) = (stays, over)
ends_left h p P stays over None = (stays, stays)

-- what holds of the state as it is, and of it with the get that waits, holds once the process asks
pub asks_left : (h : NodeState) (p : Proc) (get : Get) (mode : Mode) (P : NodeState → Type 0) → P h → P (parks h p get mode) → (o : Outcome) → P (asks h p get mode o).left
asks_left h p get mode P stays waits Outcome.parks = waits
asks_left h p get mode P stays waits (Outcome.found value) = stays
asks_left h p get mode P stays waits Outcome.absent = stays
asks_left h p get mode P stays waits Outcome.outside = stays

-- what holds of each reply that there is to a process that leaves its fence, or takes its answer, holds of the one that it is given
module _ (h : NodeState) (p : Proc) (P : Reply → Type 0) (waiting : P Reply.waiting) (idle : P Reply.idle) where
  pub leaves_reply : ((n : ℕ) (gone : List Proc) → P (Reply.released n gone)) → (c : Option CallState) → P (leaves h p c).reply
  leaves_reply released (Some (CallState.in_fence f)) = waiting
  leaves_reply released (Some (CallState.released f gone)) = released f.instance gone
  leaves_reply released (Some (CallState.parked get)) = idle
  leaves_reply released (Some (CallState.answered get outcome)) = idle
  leaves_reply released (Some (CallState.refreshing get number)) = idle
  leaves_reply released (Some (CallState.refreshed get outcome)) = idle
  leaves_reply released None = idle

  pub takes_reply : ((o : Outcome) → P (reply_of o)) → (c : Option CallState) → P (takes h p c).reply
  takes_reply told (Some (CallState.in_fence f)) = idle
  takes_reply told (Some (CallState.released f gone)) = idle
  takes_reply told (Some (CallState.parked get)) = waiting
  takes_reply told (Some (CallState.answered get outcome)) = told outcome
  takes_reply told (Some (CallState.refreshing get number)) = waiting
  takes_reply told (Some (CallState.refreshed get outcome)) = told outcome
  takes_reply told None = idle

-- and to one that asks
pub asks_reply : (h : NodeState) (p : Proc) (get : Get) (mode : Mode) (P : Reply → Type 0) → ((o : Outcome) → P (reply_of o)) → (o : Outcome) → P (asks h p get mode o).reply
asks_reply h p get mode P told (Outcome.found value) = told (Outcome.found value)
asks_reply h p get mode P told Outcome.absent = told Outcome.absent
asks_reply h p get mode P told Outcome.outside = told Outcome.outside
asks_reply h p get mode P told Outcome.parks = told Outcome.parks
