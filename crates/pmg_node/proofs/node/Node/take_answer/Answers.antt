use Rattle.std.proofs.Common.{◌++◌, List, append-nil, refl, sym, ap, subst, ◌∙◌}
use Rattle.pmg_node.specs.Acting.{joins_in}
use Rattle.pmg_node.specs.Nodes.{Node, Acts}
use Rattle.pmg_node.specs.Replies.{taking_reply}
use Rattle.pmg_node.specs.Servers.{reply_in}
use Rattle.pmg_node_model.specs.Acts.{Act, Request}
use Rattle.pmg_node_model.specs.declared.sent.Sent.{Sent}
use Rattle.pmg_node.proofs.JoiningLemmas.{joins_nothing}
use Rattle.pmg_node.proofs.NodeActs.{node_as, quiet}
use Rattle.pmg_node.proofs.ReplyLemmas.{entry_replies, take_short}
use Rattle.pmg_node.proofs.node.Node.take_answer.Goals as goal

pub returns : goal.returns
returns c =
    let s = c.self.inside.server in
    let o = c.self.inside.outbox.items in
    let a : Act = Act.request (Request.take c.args.proc.now) in
    let r = c.take_answer.result in
    let never = take_short s.jobs s.id s.holding c.args.proc.now in
    let joined = joins_in c.nothing.result in
    record {
      acts = subst (λ (n : Node). Acts taking_reply n a r (node_as c.take_answer.new.self o joined)) c.self.view_is
          (quiet taking_reply s c.take_answer.new.self o o (joins_in c.self.inside.joined) joined a r (entry_replies taking_reply s a r c.take_answer.ensures.reply never) (λ _. c.take_answer.ensures.done)
          (λ _. sym (append-nil o) ∙ ap (λ (x : List Sent). o ++ x) (sym c.take_answer.ensures.silent)) (λ is. absurd (never (sym c.take_answer.ensures.reply ∙ ap (reply_in taking_reply) is))) (λ _. refl)
          (joins_nothing s.jobs s.id s.holding a refl) c.nothing.ensures);
    }
