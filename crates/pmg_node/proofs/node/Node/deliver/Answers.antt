use Rattle.std.proofs.Common.{Err, Ok, refl, subst}
use Rattle.std.proofs.lemmas.Result.{err_from_is_err_and}
use Rattle.pmg_value.specs.declared.refusal.Refusal.TheVariants as refusals
use Rattle.pmg_node.specs.Acting.{joins_in}
use Rattle.pmg_node.specs.Nodes.{Node, Acts}
use Rattle.pmg_node.specs.Replies.{delivery_reply}
use Rattle.pmg_node.specs.declared.asked.Delivery.TheVariants as deliveries
use Rattle.pmg_node_model.specs.Acts.{Act}
use Rattle.pmg_node.proofs.NodeActs.{node_as, delivered, undelivered}
use Rattle.pmg_node.proofs.node.Node.deliver.Goals as goal

pub returns-in_err-joined : goal.returns-in_err-joined
returns-in_err-joined c =
    let s = c.self.inside.server in
    let o = c.self.inside.outbox.items in
    let joined = joins_in c.nothing.result in
    let p = err_from_is_err_and c.from_residual.result c.from_residual.ensures.1 in
    record {
      acts = rw (p.1, p.2) (subst (λ (n : Node). Acts delivery_reply n (Act.deliver c.args.frame.now) (Err refusals.NoMemory) (node_as s o joined)) c.self.view_is
          (undelivered s s o o (joins_in c.self.inside.joined) joined c.args.frame.now refl refl c.nothing.ensures));
    }

pub returns-in_err-deliver : goal.returns-in_err-deliver
returns-in_err-deliver c =
    let s = c.self.inside.server in
    let o = c.self.inside.outbox.items in
    let joined = joins_in c.nothing.result in
    let p = err_from_is_err_and c.from_residual-in_err-deliver.result c.from_residual-in_err-deliver.ensures.1 in
    record {
      acts = rw (p.1, p.2)
          (subst (λ (n : Node). Acts delivery_reply n (Act.deliver c.args.frame.now) (Err refusals.NoMemory) (node_as c.deliver.new.self c.deliver.new.out.items joined)) c.self.view_is
          (undelivered s c.deliver.new.self o c.deliver.new.out.items (joins_in c.self.inside.joined) joined c.args.frame.now c.in_err-deliver.ensures.err c.in_err-deliver.ensures.unsent c.nothing.ensures));
    }

pub returns-in-Taken : goal.returns-in-Taken
returns-in-Taken c =
    let s = c.self.inside.server in
    let o = c.self.inside.outbox.items in
    let given = c.in_ok-deliver.ensures in
    let joined = joins_in c.in_ok-joined.joined in
    record {
      acts = subst (λ (n : Node). Acts delivery_reply n (Act.deliver c.args.frame.now) (Ok deliveries.Taken) (node_as c.deliver.new.self c.deliver.new.out.items joined)) c.self.view_is
          (delivered s c.deliver.new.self o c.deliver.new.out.items (joins_in c.self.inside.joined) joined c.args.frame.now c.in_ok-deliver.field-0 deliveries.Taken c.in-Taken.is given.reply given.ok given.sent
          c.in_ok-joined.ensures);
    }

pub returns-in-Ignored : goal.returns-in-Ignored
returns-in-Ignored c =
    let s = c.self.inside.server in
    let o = c.self.inside.outbox.items in
    let given = c.in_ok-deliver.ensures in
    let joined = joins_in c.nothing.result in
    record {
      acts = subst (λ (n : Node). Acts delivery_reply n (Act.deliver c.args.frame.now) (Ok deliveries.Ignored) (node_as c.deliver.new.self c.deliver.new.out.items joined)) c.self.view_is
          (delivered s c.deliver.new.self o c.deliver.new.out.items (joins_in c.self.inside.joined) joined c.args.frame.now c.in_ok-deliver.field-0 deliveries.Ignored c.in-Ignored.is given.reply given.ok given.sent
          c.nothing.ensures);
    }
