use Rattle.std.proofs.Common.{◌≡◌, true, false, sym, ap, subst, ◌∙◌, rules}
use Rattle.pmg_frame.specs.declared.frame.Frame.TheVariants as frames
use Rattle.pmg_dmodex.specs.Requests.{Requests, holding}
use Rattle.pmg_node_model.specs.Acts.{Act}
use Rattle.pmg_node_parts.specs.Owns.{sealed_of}
use Rattle.pmg_node_parts.specs.Telling.{answering_by}
use Rattle.pmg_node.specs.Content.{server_of}
use Rattle.pmg_node.specs.Servers.{IsNode, after}
use Rattle.pmg_node.proofs.FrameLemmas.{Takes, below_is, not_below_is, direct_taken, reaches_as, direct_steps, ignores, waits_for, with_marks}
use Rattle.pmg_node.proofs.NodeInside.{server_in}
use Rattle.pmg_node.proofs.NodeKept.{node_stays}
use Rattle.pmg_node.proofs.NodeMarked.{content_after}
use Rattle.pmg_node.proofs.OpenLemmas.{still_open}
use Rattle.pmg_node.proofs.server.Server.deliver_direct_ask.Goals as goal

pub returns-then-not-is_asked : goal.returns-then-not-is_asked
returns-then-not-is_asked c =
    let none = direct_taken c.args.self.now.jobs c.args.self.now.id c.args.self.now.holding.table c.args.ask.now ∙ sym c.is_asked.ensures ∙ c.if-not-is_asked.true in
    let its = ignores c.args.self.now (subst IsNode c.self.view_is c.self.invariant.node) (frames.DirectAsk c.args.ask.now) none c.args.out.now.items in
    record { reply = its.reply; ok = its.ok; sent = its.sent; err = search rules; unsent = search rules }

pub returns-then-level : goal.returns-then-level
returns-then-level c =
    let inside = c.self.inside in
    let taken = direct_taken c.args.self.now.jobs c.args.self.now.id c.args.self.now.holding.table c.args.ask.now ∙ sym c.is_asked.ensures ∙ c.if-not-is_asked.false in
    let below =
    reaches_as inside.own _ c.args.ask.now.proc _ _ _ true c.level-2.ensures.value c.proc-2.ensures.value c.level-3.ensures.value
    (below_is c.level-2.result c.level-3.result c.if-level.true) in
    let due = c.in_ok-dues.ensures ∙ (λ i. answering_by (sealed_of inside.own) (c.node.ensures i) (c.proc.ensures.value i) (c.level.ensures.value i)) in
    let its =
    direct_steps (server_in inside) c.args.self.now c.self.view_is (subst IsNode c.self.view_is c.self.invariant.node) c.args.ask.now taken true below _ _ c.args.out.now.items _ due
    c.in_ok-handed.ensures.marks c.in_ok-handed.ensures.frames in
    record { reply = its.reply; ok = its.ok; sent = its.sent; err = search rules; unsent = search rules }

pub invariant_of-self-then-level : goal.invariant_of-self-then-level
invariant_of-self-then-level c =
    let inside = c.self.inside in
    let taken = direct_taken c.args.self.now.jobs c.args.self.now.id c.args.self.now.holding.table c.args.ask.now ∙ sym c.is_asked.ensures ∙ c.if-not-is_asked.false in
    let below =
    reaches_as inside.own _ c.args.ask.now.proc _ _ _ true c.level-2.ensures.value c.proc-2.ensures.value c.level-3.ensures.value
    (below_is c.level-2.result c.level-3.result c.if-level.true) in
    let due = c.in_ok-dues.ensures ∙ (λ i. answering_by (sealed_of inside.own) (c.node.ensures i) (c.proc.ensures.value i) (c.level.ensures.value i)) in
    let its =
    direct_steps (server_in inside) c.args.self.now c.self.view_is (subst IsNode c.self.view_is c.self.invariant.node) c.args.ask.now taken true below _ _ c.args.out.now.items _ due
    c.in_ok-handed.ensures.marks c.in_ok-handed.ensures.frames in
    content_after inside c.self.invariant c.args.self.now c.self.view_is (Act.deliver (frames.DirectAsk c.args.ask.now)) c.hand_out.new.marks its.ok

module _ (c : goal.In_default) where
  its : Takes c.args.self.now (frames.DirectAsk c.args.ask.now) (with_marks c.hand_out.new.marks (waits_for c.args.ask.now (server_in c.self.inside))) c.args.out.now.items c.hand_out.new.out.items
  its =
      let inside = c.self.inside in
      let taken = direct_taken c.args.self.now.jobs c.args.self.now.id c.args.self.now.holding.table c.args.ask.now ∙ sym c.is_asked.ensures ∙ c.if-not-is_asked.false in
      let none =
      reaches_as inside.own _ c.args.ask.now.proc _ _ _ false c.level-2.ensures.value c.proc-2.ensures.value c.level-3.ensures.value
      (not_below_is c.level-2.result c.level-3.result c.if-level.false) in
      direct_steps (server_in inside) c.args.self.now c.self.view_is (subst IsNode c.self.view_is c.self.invariant.node) c.args.ask.now taken false none _ _ c.args.out.now.items _
      (c.in_ok-dues.ensures ∙ (λ i. answering_by (sealed_of inside.own) (c.node.ensures i) (c.proc.ensures.value i) (c.level.ensures.value i))) c.in_ok-handed.ensures.marks c.in_ok-handed.ensures.frames

  moved : server_of c.self.inside.table c.self.inside.id c.self.inside.board c.self.inside.own c.self.inside.calls c.hold.new.self c.hand_out.new.marks
      ≡ after c.args.self.now (Act.deliver (frames.DirectAsk c.args.ask.now))
  moved =
      let inside = c.self.inside in
      ap (λ (r : Requests). server_of inside.table inside.id inside.board inside.own inside.calls r c.hand_out.new.marks)
      (c.in_default.ensures.ok ∙ (λ i. holding inside.held (c.node-2.ensures i) (c.proc-3.ensures.value i) (c.level-4.ensures.value i)))
      ∙ its.ok

pub invariant_of-self-in_default : goal.invariant_of-self-in_default
invariant_of-self-in_default c =
    let kept = subst IsNode c.self.view_is c.self.invariant.node in
    let a = Act.deliver (frames.DirectAsk c.args.ask.now) in
    record {
      same = c.self.invariant.same;
      told = c.self.invariant.told;
      node = subst IsNode (sym (moved c)) (node_stays c.args.self.now a kept);
      replies = still_open _ c.args.self.now c.self.view_is a kept _ (moved c) (ap (λ (r : Requests). r.anew.last) c.in_default.ensures.ok) c.self.inside.held.anew c.hold.new.self.anew
          (ap (λ (r : Requests). r.anew) c.in_default.ensures.ok) c.self.invariant.replies;
    }

pub returns : goal.returns
returns c = record { reply = (its c.before).reply; ok = moved c.before; sent = (its c.before).sent; err = search rules; unsent = search rules }
