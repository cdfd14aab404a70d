use Rattle.std.proofs.Common.{◌++◌, sym, ap, subst, ◌∙◌, rules}
use Rattle.pmg_frame.specs.declared.frame.Frame.TheVariants as frames
use Rattle.pmg_node_model.specs.Acts.{Act, Reply}
use Rattle.pmg_node.specs.Servers.{IsNode}
use Rattle.pmg_fence.specs.declared.change.Change.{Change}
use Rattle.pmg_fence.specs.declared.change.Change.TheVariants as changes
use Rattle.pmg_node.specs.Fencing.{fence_dues}
use Rattle.pmg_node.proofs.FenceLemmas.{Steps, header_steps}
use Rattle.pmg_node.proofs.FrameLemmas.{ignores}
use Rattle.pmg_node.proofs.NodeInside.{server_with, sends_in}
use Rattle.pmg_node.proofs.server.Server.deliver_header.Goals as goal

pub returns-then-not-is_told : goal.returns-then-not-is_told
returns-then-not-is_told c =
    let none = sym c.is_told.ensures ∙ c.if-not-is_told.true in
    let its = ignores c.args.self.now (subst IsNode c.self.view_is c.self.invariant.node) (frames.Header c.args.header.now) none c.args.out.now.items in
    record { reply = its.reply; ok = its.ok; sent = its.sent; err = search rules; unsent = search rules }

steps : (c : goal.In_ok-change_fence)
    → let i = c.self.inside in let f = c.name.result.now in let noted : Change = changes.Told c.in_ok-copy.field-0 in let then = c.change_fence.new in
    Steps c.args.self.now (Act.deliver (frames.Header c.args.header.now)) Reply.taken then.table i.id i.held.anew (server_with i then.table then.calls then.marks)
    (sends_in i (fence_dues i.table f noted)).frames
steps c =
    let i = c.self.inside in
    let then = c.change_fence.new in
    let ok = c.in_ok-change_fence.ensures in
    header_steps i c.args.self.now c.self.view_is c.self.invariant c.name.result.now then.calls then.table then.marks c.args.header.now
    c.in_ok-copy.field-0 c.name.ensures c.in_ok-copy.ensures (sym c.is_told.ensures ∙ c.if-not-is_told.false) ok.calls ok.table ok.marks

pub returns : goal.returns
returns c = record { reply = (steps c).replied; ok = (steps c).done; sent = c.in_ok-change_fence.ensures.sent ∙ ap (◌++◌ c.args.out.now.items) (steps c).sent; err = search rules; unsent = search rules }

pub invariant_of-self-2 : goal.invariant_of-self-2
invariant_of-self-2 c = (steps c).kept
