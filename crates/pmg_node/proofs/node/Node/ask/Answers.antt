use Rattle.std.proofs.Common.{refl, subst}
use Rattle.pmg_node.specs.Acting.{joins_in}
use Rattle.pmg_node.specs.Nodes.{Node, Acts}
use Rattle.pmg_node.specs.Replies.{asked_reply}
use Rattle.pmg_node_model.specs.Acts.{Act, Request}
use Rattle.pmg_node_parts.specs.Calls.{get_of}
use Rattle.pmg_node.proofs.JoiningLemmas.{joins_nothing}
use Rattle.pmg_node.proofs.NodeActs.{node_as, quiet}
use Rattle.pmg_node.proofs.ReplyLemmas.{act_replies}
use Rattle.pmg_node.proofs.node.Node.ask.Goals as goal

pub returns : goal.returns
returns c =
    let s = c.self.inside.server in
    let o = c.self.inside.outbox.items in
    let a : Act = Act.request (Request.ask c.args.proc.now (get_of c.args.target.now c.args.key.now) c.args.mode) in
    let r = c.ask.result in
    let joined = joins_in c.nothing.result in
    record {
      acts = subst (λ (n : Node). Acts asked_reply n a r (node_as c.ask.new.self c.ask.new.out.items joined)) c.self.view_is
          (quiet asked_reply s c.ask.new.self o c.ask.new.out.items (joins_in c.self.inside.joined) joined a r (act_replies asked_reply s a r c.ask.ensures.reply) c.ask.ensures.done c.ask.ensures.sent
          c.ask.ensures.memory c.ask.ensures.unsent (joins_nothing s.jobs s.id s.holding a refl) c.nothing.ensures);
    }
