use Rattle.std.proofs.Common.{true, false, Option, ap, subst, ◌∙◌}
use Rattle.std.proofs.lemmas.Result.{IfOk-weaker}
use Rattle.pmg_commit.specs.Knowledge.{Contribution}
use Rattle.pmg_frame.specs.Refreshing.{told_by}
use Rattle.pmg_frame.specs.declared.frame.Frame.TheVariants as frames
use Rattle.pmg_node_model.specs.Holdings.{joined}
use Rattle.pmg_node_parts.specs.Answering.{AreAskedAgain}
use Rattle.pmg_node.specs.Servers.{Server}
use Rattle.pmg_node.proofs.FrameLemmas.{below_is, not_below_is, takes_frame, dues_after, rises_as}
use Rattle.pmg_node.proofs.NodeInside.{server_in}
use Rattle.pmg_node_parts.proofs.AnswerLemmas.{plain_calls}
use Rattle.pmg_node.proofs.ReplyTaking.{reply_tells, reply_asks}
use Rattle.pmg_node.proofs.server.Server.asks_by.Goals as goal

pub returns-then-far_level-level : goal.returns-then-far_level-level
returns-then-far_level-level c =
    let frame = frames.RefreshReply c.args.reply.now in
    let none =
    rises_as c.self.inside.board.far (joined c.self.inside.board.far (told_by c.args.reply.now)) _ _ _ c.args.reply.now.told.proc _ _ false c.far.ensures
    (ap (joined c.self.inside.board.far) c.requires.told) c.proc-proc.ensures c.level.ensures.value c.far_level.ensures.value (not_below_is c.level.result c.far_level.result c.if-far_level-level.true) in
    c.new.ensures.items ∙ (reply_tells (server_in c.self.inside) c.args.reply.now (ap (takes_frame frame) c.self.view_is ∙ c.requires.taken)).due false none ∙ ap (dues_after frame) c.self.view_is

pub returns : goal.returns
returns c =
    let s : Server = server_in c.self.inside in
    let reply = c.args.reply.now in
    let more =
    rises_as s.holding.far (joined s.holding.far (told_by reply)) _ _ _ reply.told.proc _ _ true c.far.ensures (ap (joined s.holding.far) c.requires.told)
    c.proc-proc.ensures c.level.ensures.value c.far_level.ensures.value (below_is c.level.result c.far_level.result c.if-far_level-level.false) in
    IfOk-weaker c.asks_again.result _ _ (λ dues are.
    reply_asks s reply (ap (takes_frame (frames.RefreshReply reply)) c.self.view_is ∙ c.requires.taken) c.self.invariant.node.server.settled c.proc-proc.result.now c.proc-proc.ensures dues.items
    (subst (λ (told : Option Contribution). AreAskedAgain s.jobs s.id c.proc-proc.result.now s.holding.table s.holding.near (joined s.holding.far told) s.holding.calls dues.items) c.requires.told are) more
    ∙ ap (dues_after (frames.RefreshReply reply)) c.self.view_is) c.asks_again.ensures

pub asks_again-requires-clause-plain : goal.asks_again-requires-clause-plain
asks_again-requires-clause-plain c = plain_calls _ _ _ c.self.invariant.node.server.settled
