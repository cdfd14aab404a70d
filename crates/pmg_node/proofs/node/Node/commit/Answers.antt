use Rattle.std.proofs.Common.{Ok, refl, subst, ◌∙◌}
use Rattle.pmg_value.specs.declared.process.Proc.{Proc}
use Rattle.pmg_node.specs.Acting.{joins_in}
use Rattle.pmg_node.specs.Nodes.{Node, Acts}
use Rattle.pmg_node.specs.Replies.{committed_reply}
use Rattle.pmg_node_model.specs.Acts.{Act, Reply}
use Rattle.pmg_node.proofs.NodeActs.{sealed}
use Rattle.pmg_node.proofs.ReplyLemmas.{sealed_joins_are}
use Rattle.pmg_node.proofs.node.Node.commit.Goals as goal

pub returns : goal.returns
returns c =
    let s = c.self.inside.server in
    let a : Act = Act.commit c.args.proc.now c.args.batch.now in
    let p : Proc = c.args.proc.now in
    let new = c.commit_joined.new.self in
    let committed = c.in_ok-committed.committed in
    let given = c.in_ok-committed.ensures in
    let kept = c.keep.new.self in
    record {
      acts = subst (λ (n : Node). Acts Reply.committed n a (Ok c.keep.result) kept) c.self.view_is
          (sealed Reply.committed s kept.server c.self.inside.outbox.items kept.outbox (joins_in c.self.inside.joined) kept.joined a committed c.keep.result c.keep.ensures.number given.reply
          (c.keep.ensures.server ∙ given.done tt) (c.keep.ensures.outbox ∙ given.sent tt) c.keep.ensures.joined
          (sealed_joins_are committed_reply s a p new (λ z. refl) (λ h. refl) committed given.reply (given.done tt) given.near given.far));
    }
