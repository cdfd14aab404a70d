-- The reply of a node to another node that asks anew.
use Rattle.std.specs.Prelude.{nat_le, List, [], ◌∷◌, if◌then◌else◌}
use Rattle.pmg_value.specs.declared.process.Proc.{Proc}
use Rattle.pmg_scope.specs.declared.scope.Reach.TheVariants as reach
use Rattle.pmg_commit.specs.Sealed.{Sealed, piece_at}
use Rattle.pmg_frame.specs.Refreshing.{RefreshAsk, RefreshReply, refresh_reply}
use Rattle.pmg_frame.specs.declared.frame.Frame.TheVariants as frames
use Rattle.pmg_node_model.specs.Sending.{sent}
use Rattle.pmg_node_model.specs.declared.due.ToSend.{ToSend}
use Rattle.pmg_node_model.specs.declared.due.ToSend.TheVariants as sendings

-- the commits above the level that the asking node knows, given the sealed state of each process
abbrev pub reply_by : (Proc → Sealed) → RefreshAsk → RefreshReply
reply_by sealer a = refresh_reply a.ask.node a.request (piece_at (sealer a.ask.proc) a.ask.level reach.Far)

-- the due reply, unless the request names a commit that was not made
abbrev pub replying_by : (Proc → Sealed) → RefreshAsk → List ToSend
replying_by sealer a = if nat_le a.ask.level (sealer a.ask.proc).level then sendings.Whole (sent a.ask.node (frames.RefreshReply (reply_by sealer a))) ∷ [] else []
