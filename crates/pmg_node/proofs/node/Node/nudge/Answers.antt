use Rattle.std.proofs.Common.{Result, Ok, refl, subst}
use Rattle.pmg_value.specs.declared.refusal.Refusal.{Refusal}
use Rattle.pmg_node.specs.Acting.{joins_in}
use Rattle.pmg_node.specs.Nodes.{Node, Acts}
use Rattle.pmg_node_model.specs.Acts.{Act, Reply, Request}
use Rattle.pmg_node.proofs.JoiningLemmas.{joins_nothing}
use Rattle.pmg_node.proofs.NodeActs.{node_as, quiet}
use Rattle.pmg_node.proofs.node.Node.nudge.Goals as goal

pub returns : goal.returns
returns c =
    let s = c.self.inside.server in
    let o = c.self.inside.outbox.items in
    let a : Act = Act.request Request.nudge in
    let r : Result (Unit {0}) Refusal = Ok tt in
    let joined = joins_in c.nothing.result in
    record {
      acts = subst (λ (n : Node). Acts (λ (u : Unit {0}). Reply.done) n a r (node_as c.nudge.new.self c.nudge.new.out.items joined)) c.self.view_is
          (quiet (λ (u : Unit {0}). Reply.done) s c.nudge.new.self o c.nudge.new.out.items (joins_in c.self.inside.joined) joined a r c.nudge.ensures.reply (λ _. c.in_ok-nudge.ensures.ok)
          (λ _. c.in_ok-nudge.ensures.sent) (λ is. absurd cc) (λ is. absurd cc) (joins_nothing s.jobs s.id s.holding a refl) c.nothing.ensures);
    }
