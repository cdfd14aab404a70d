use Rattle.std.proofs.Common.{Ok, refl, subst, ◌∙◌}
use Rattle.pmg_value.specs.declared.process.Proc.{Proc}
use Rattle.pmg_scope.specs.declared.scope.Reach.TheVariants as reach
use Rattle.pmg_pset.specs.Sets.{host}
use Rattle.pmg_node.specs.Acting.{joins_in}
use Rattle.pmg_node.specs.Nodes.{Node, Acts}
use Rattle.pmg_node.specs.Replies.{defined_reply}
use Rattle.pmg_node_model.specs.Acts.{Act, Reply, Request}
use Rattle.pmg_node.proofs.NodeActs.{sealed}
use Rattle.pmg_node.proofs.ReplyLemmas.{sealed_joins_are, sets_joined}
use Rattle.pmg_node.proofs.node.Node.define_set.Goals as goal

pub returns : goal.returns
returns c =
    let s = c.self.inside.server in
    let a : Act = Act.request (Request.define c.args.name.now c.args.list.now) in
    let p : Proc = host in
    let new = c.define_set.new.self in
    let committed = c.in_ok-committed.committed in
    let given = c.in_ok-committed.ensures in
    let kept = c.keep.new.self in
    record {
      acts = subst (λ (n : Node). Acts Reply.defined n a (Ok c.keep.result) kept) c.self.view_is
          (sealed Reply.defined s kept.server c.self.inside.outbox.items kept.outbox (joins_in c.self.inside.joined) kept.joined a committed c.keep.result c.keep.ensures.number given.reply
          (c.keep.ensures.server ∙ given.done tt) (c.keep.ensures.outbox ∙ given.sent tt) c.keep.ensures.joined
          (sealed_joins_are defined_reply s a p new (λ z. refl) (λ h. refl) committed given.reply (given.done tt) (sets_joined s.holding new.holding reach.Near (λ z. z.near) (Ok committed) given.near) (sets_joined s.holding new.holding reach.Far (λ z. z.far) (Ok committed) given.far)));
    }
