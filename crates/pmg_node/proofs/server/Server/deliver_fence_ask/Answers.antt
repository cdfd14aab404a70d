use Rattle.std.proofs.Common.{◌++◌, List, sym, ap, subst, ◌∙◌, rules}
use Rattle.std.specs.Option.{option_map}
use Rattle.pmg_frame.specs.Fences.{header}
use Rattle.pmg_frame.specs.declared.frame.Frame.TheVariants as frames
use Rattle.pmg_fence.specs.Changes.{present}
use Rattle.pmg_node_model.specs.Acts.{Act, Reply}
use Rattle.pmg_node.specs.Servers.{IsNode}
use Rattle.pmg_node_parts.specs.Telling.{telling_by}
use Rattle.pmg_node_model.specs.declared.sent.Sent.{Sent}
use Rattle.pmg_fence.specs.declared.change.Change.TheVariants as changes
use Rattle.pmg_node.specs.Fencing.{fence_dues}
use Rattle.pmg_node.proofs.FenceLemmas.{Steps, ask_steps, told_steps}
use Rattle.pmg_node.proofs.FrameLemmas.{ignores}
use Rattle.pmg_node.proofs.NodeInside.{server_with, sends_in}
use Rattle.pmg_node.proofs.server.Server.deliver_fence_ask.Goals as goal

pub returns-then-not-is_asked_for : goal.returns-then-not-is_asked_for
returns-then-not-is_asked_for c =
    let none = sym c.is_asked_for.ensures ∙ c.if-not-is_asked_for.true in
    let its = ignores c.args.self.now (subst IsNode c.self.view_is c.self.invariant.node) (frames.FenceAsk c.args.ask.now) none c.args.out.now.items in
    record { reply = its.reply; ok = its.ok; sent = its.sent; err = search rules; unsent = search rules }

pub returns-in-Some : goal.returns-in-Some
returns-in-Some c =
    let i = c.self.inside in
    let hd = c.in-Some.header in
    let t = i.table in
    let there = sym c.in-Some.is ∙ c.in_ok-header.ensures ∙ ap (λ f. option_map (header t.node f) (present t.jobs t.node t.fences f)) c.name.ensures in
    let marks = c.in_ok-tell_node.ensures.marks ∙ ap (λ n. (sends_in i (telling_by hd n)).marks) c.node.ensures in
    let steps =
    told_steps i c.args.self.now c.self.view_is c.self.invariant c.args.ask.now (sym c.is_asked_for.ensures ∙ c.if-not-is_asked_for.false)
    hd there c.tell_node.new.marks marks in
    record {
      reply = steps.replied;
      ok = steps.done;
      sent = c.in_ok-tell_node.ensures.sent
          ∙ ap (λ n. c.args.out.now.items ++ (sends_in i (telling_by hd n)).frames) c.node.ensures
          ∙ ap (λ (x : List Sent). c.args.out.now.items ++ x) steps.sent;
      err = search rules;
      unsent = search rules;
    }

pub invariant_of-self-in-Some : goal.invariant_of-self-in-Some
invariant_of-self-in-Some c =
    let i = c.self.inside in
    let hd = c.in-Some.header in
    let t = i.table in
    let there = sym c.in-Some.is ∙ c.in_ok-header.ensures ∙ ap (λ f. option_map (header t.node f) (present t.jobs t.node t.fences f)) c.name.ensures in
    let marks = c.in_ok-tell_node.ensures.marks ∙ ap (λ n. (sends_in i (telling_by hd n)).marks) c.node.ensures in
    let steps =
    told_steps i c.args.self.now c.self.view_is c.self.invariant c.args.ask.now (sym c.is_asked_for.ensures ∙ c.if-not-is_asked_for.false)
    hd there c.tell_node.new.marks marks in
    steps.kept

steps : (c : goal.In_ok-change_fence)
    → let i = c.self.inside in let then = c.change_fence.new in
    Steps c.args.self.now (Act.deliver (frames.FenceAsk c.args.ask.now)) Reply.taken then.table i.id i.held.anew (server_with i then.table then.calls then.marks)
    (sends_in i (fence_dues i.table c.name-2.result.now changes.Learned)).frames
steps c =
    let i = c.self.inside in
    let t = i.table in
    let then = c.change_fence.new in
    let ok = c.in_ok-change_fence.ensures in
    let none =
    ap (λ f. option_map (header t.node f) (present t.jobs t.node t.fences f)) (c.name-2.ensures ∙ sym c.name.ensures)
    ∙ sym c.in_ok-header.ensures ∙ c.in_default.is in
    ask_steps i c.args.self.now c.self.view_is c.self.invariant c.name-2.result.now then.calls then.table then.marks c.args.ask.now
    c.name-2.ensures (sym c.is_asked_for.ensures ∙ c.if-not-is_asked_for.false) none ok.calls ok.table ok.marks

pub returns : goal.returns
returns c = record { reply = (steps c).replied; ok = (steps c).done; sent = c.in_ok-change_fence.ensures.sent ∙ ap (◌++◌ c.args.out.now.items) (steps c).sent; err = search rules; unsent = search rules }

pub invariant_of-self-2 : goal.invariant_of-self-2
invariant_of-self-2 c = (steps c).kept
