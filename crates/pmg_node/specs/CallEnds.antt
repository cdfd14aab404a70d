-- The end of a process's call: it leaves the fence that released it, or takes the answer of its get.
use Rattle.std.specs.Prelude.{Option, Some}
use Rattle.pmg_value.specs.declared.process.Proc.{Proc}
use Rattle.pmg_node_model.specs.Acts.{Request, Reply}
use Rattle.pmg_node_model.specs.Holdings.{CallState}
use Rattle.pmg_node_parts.specs.Calls.{standing_of}
use Rattle.pmg_node.specs.Replies.{stays_reply, released_reply, pending_reply, answered_reply}
use Rattle.pmg_node.specs.declared.call_ends.CallEnd.{CallEnd}
use Rattle.pmg_node.specs.declared.call_ends.CallEnd.TheVariants as ends
use Rattle.pmg_node.specs.declared.call_ends.CallStand.{CallStand}
use Rattle.pmg_node.specs.declared.call_ends.CallStand.TheVariants as stands

-- the request
abbrev pub ending_request : CallEnd → Proc → Request
ending_request ends.Leave p = Request.leave p
ending_request ends.Take p = Request.take p

-- the reply to a process whose call is not over
abbrev pub standing_reply : CallEnd → Option CallState → Option Reply
standing_reply ends.Leave standing = stays_reply standing
standing_reply ends.Take standing = pending_reply standing

-- the reply after the call is over
abbrev pub over_reply : CallEnd → Option CallState → Reply
over_reply ends.Leave standing = released_reply standing
over_reply ends.Take standing = answered_reply standing

-- the reply, by the state of the call
abbrev pub told_at : CallEnd → CallStand → Reply
told_at end stands.Idle = Reply.idle
told_at end stands.Waiting = Reply.waiting
told_at end (stands.Over call) = over_reply end (Some (standing_of call))
