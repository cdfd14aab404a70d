use Rattle.std.proofs.Common.{Option, sym, ap, subst, ◌∙◌}
use Rattle.std.proofs.lemmas.Result.{IfOk-weaker}
use Rattle.pmg_value.specs.declared.process.Proc.{Proc}
use Rattle.pmg_commit.specs.Knowledge.{Contribution}
use Rattle.pmg_frame.specs.declared.frame.Frame.TheVariants as frames
use Rattle.pmg_node_model.specs.Acts.{Act}
use Rattle.pmg_node_model.specs.Holdings.{joined}
use Rattle.pmg_node_parts.specs.Answered.{IsAsker}
use Rattle.pmg_node_parts.specs.Answering.{AreAnswersThen}
use Rattle.pmg_node_parts.specs.Calls.{all_instead}
use Rattle.pmg_node.specs.Servers.{Server, after}
use Rattle.pmg_node.proofs.FrameLemmas.{takes_frame}
use Rattle.pmg_node.proofs.NodeInside.{server_in}
use Rattle.pmg_node_parts.proofs.AnswerLemmas.{plain_calls}
use Rattle.pmg_node.proofs.ReplyOpen.{open_plain, open_asker}
use Rattle.pmg_node.proofs.ReplyTaking.{reply_answers}
use Rattle.pmg_node.proofs.server.Server.answers_by.Goals as goal

pub returns : goal.returns
returns c =
    let s : Server = server_in c.self.inside in
    let reply = c.args.reply.now in
    let taken = ap (takes_frame (frames.RefreshReply reply)) c.self.view_is ∙ c.requires.taken in
    IfOk-weaker c.answers_then.result _ _ (λ answers are.
    ap (λ (x : Server). all_instead x.holding.calls answers.items) (sym c.self.view_is)
    ∙ reply_answers s reply taken c.self.invariant.node.server.settled c.request-number.result c.proc-proc.result.now c.request-number.ensures c.proc-proc.ensures answers.items
    (subst
    (λ (told : Option Contribution). AreAnswersThen s.jobs s.id c.request-number.result c.proc-proc.result.now s.holding.table s.holding.near (joined s.holding.far told) s.holding.calls answers.items)
    c.requires.told are)
    ∙ ap (λ (x : Server). (after x (Act.deliver (frames.RefreshReply reply))).holding.calls) c.self.view_is) c.answers_then.ensures

pub answers_then-requires-clause-plain : goal.answers_then-requires-clause-plain
answers_then-requires-clause-plain c = plain_calls _ _ _ c.self.invariant.node.server.settled

pub answers_then-requires-clause-anew : goal.answers_then-requires-clause-anew
answers_then-requires-clause-anew c = let inside = c.self.inside in open_plain inside.calls inside.held.anew c.self.invariant.replies

pub answers_then-requires-clause-asker : goal.answers_then-requires-clause-asker
answers_then-requires-clause-asker c =
    let inside = c.self.inside in
    let number = c.request-number.result in
    let proc = c.proc-proc.result.now in
    subst (λ (asker : Option Proc). IsAsker inside.calls asker number proc) (sym c.asker_of-asker.ensures) (open_asker inside.calls inside.held.anew c.self.invariant.replies number proc)
