use Rattle.std.proofs.Common.{refl, subst}
use Rattle.pmg_node.specs.Acting.{joins_in}
use Rattle.pmg_node.specs.Nodes.{Node, Acts}
use Rattle.pmg_node_model.specs.Acts.{Act, Reply, Request}
use Rattle.pmg_node.proofs.JoiningLemmas.{joins_nothing}
use Rattle.pmg_node.proofs.NodeActs.{node_as, quiet}
use Rattle.pmg_node.proofs.node.Node.enter.Goals as goal

pub returns : goal.returns
returns c =
    let s = c.self.inside.server in
    let o = c.self.inside.outbox.items in
    let a : Act = Act.request (Request.enter c.args.proc.now c.args.list.now c.args.collect) in
    let r = c.enter.result in
    let joined = joins_in c.nothing.result in
    record {
      acts = subst (λ (n : Node). Acts Reply.entered n a r (node_as c.enter.new.self c.enter.new.out.items joined)) c.self.view_is
          (quiet Reply.entered s c.enter.new.self o c.enter.new.out.items (joins_in c.self.inside.joined) joined a r c.enter.ensures.reply c.enter.ensures.done c.enter.ensures.sent
          c.enter.ensures.memory c.enter.ensures.unsent (joins_nothing s.jobs s.id s.holding a refl) c.nothing.ensures);
    }
