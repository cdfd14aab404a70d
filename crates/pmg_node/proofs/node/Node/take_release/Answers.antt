use Rattle.std.proofs.Common.{◌++◌, List, append-nil, refl, sym, ap, subst, ◌∙◌}
use Rattle.pmg_node.specs.Acting.{joins_in}
use Rattle.pmg_node.specs.Nodes.{Node, Acts}
use Rattle.pmg_node.specs.Replies.{release_reply}
use Rattle.pmg_node.specs.Servers.{reply_in}
use Rattle.pmg_node_model.specs.Acts.{Act, Request}
use Rattle.pmg_node_model.specs.declared.sent.Sent.{Sent}
use Rattle.pmg_node.proofs.JoiningLemmas.{joins_nothing}
use Rattle.pmg_node.proofs.NodeActs.{node_as, quiet}
use Rattle.pmg_node.proofs.ReplyLemmas.{entry_replies, leave_short}
use Rattle.pmg_node.proofs.node.Node.take_release.Goals as goal

pub returns : goal.returns
returns c =
    let s = c.self.inside.server in
    let o = c.self.inside.outbox.items in
    let a : Act = Act.request (Request.leave c.args.proc.now) in
    let r = c.take_release.result in
    let never = leave_short s.jobs s.id s.holding c.args.proc.now in
    let joined = joins_in c.nothing.result in
    record {
      acts = subst (λ (n : Node). Acts release_reply n a r (node_as c.take_release.new.self o joined)) c.self.view_is
          (quiet release_reply s c.take_release.new.self o o (joins_in c.self.inside.joined) joined a r (entry_replies release_reply s a r c.take_release.ensures.reply never) (λ _. c.take_release.ensures.done)
          (λ _. sym (append-nil o) ∙ ap (λ (x : List Sent). o ++ x) (sym c.take_release.ensures.silent)) (λ is. absurd (never (sym c.take_release.ensures.reply ∙ ap (reply_in release_reply) is))) (λ _. refl)
          (joins_nothing s.jobs s.id s.holding a refl) c.nothing.ensures);
    }
