use Rattle.std.proofs.Common.{sym, subst, ◌∙◌, rules}
use Rattle.pmg_frame.specs.declared.frame.Frame.TheVariants as frames
use Rattle.pmg_node_model.specs.Acts.{Act}
use Rattle.pmg_node_model.specs.Choosing.{answering}
use Rattle.pmg_node_parts.specs.Owns.{sealed_of}
use Rattle.pmg_node.specs.Servers.{IsNode}
use Rattle.pmg_node_parts.specs.Telling.{answering_by}
use Rattle.pmg_node.proofs.FrameLemmas.{range_taken, asked_steps, ignores, range_is, range_sent}
use Rattle.pmg_node.proofs.NodeInside.{server_in}
use Rattle.pmg_node.proofs.NodeMarked.{content_after}
use Rattle.pmg_node.proofs.server.Server.deliver_range_ask.Goals as goal

pub returns-then-not-is_asked : goal.returns-then-not-is_asked
returns-then-not-is_asked c =
    let none = range_taken c.args.self.now.jobs c.args.self.now.id c.args.self.now.holding.table c.args.ask.now ∙ sym c.is_asked.ensures ∙ c.if-not-is_asked.true in
    let its = ignores c.args.self.now (subst IsNode c.self.view_is c.self.invariant.node) (frames.RangeAsk c.args.ask.now) none c.args.out.now.items in
    record { reply = its.reply; ok = its.ok; sent = its.sent; err = search rules; unsent = search rules }

pub returns : goal.returns
returns c =
    let s = c.args.self.now in
    let ask = c.args.ask.now in
    let settled = (subst IsNode c.self.view_is c.self.invariant.node).server.settled in
    let taken = range_taken s.jobs s.id s.holding.table ask ∙ sym c.is_asked.ensures ∙ c.if-not-is_asked.false in
    let due = c.in_ok-dues.ensures ∙ (λ i. answering_by (sealed_of c.self.inside.own) (c.node.ensures i) (c.proc.ensures.value i) (c.level.ensures.value i)) in
    let its =
    asked_steps (server_in c.self.inside) s c.self.view_is (frames.RangeAsk ask) ask (λ x. x.holding) (λ x. answering x.holding ask.node ask.proc ask.level)
    (range_is s.jobs s.id s.holding settled ask taken) (range_sent s.jobs s.id s.holding settled s.marks ask taken) _ _ c.args.out.now.items _ due
    c.in_ok-hand_out.ensures.marks c.in_ok-hand_out.ensures.frames in
    record { reply = its.reply; ok = its.ok; sent = its.sent; err = search rules; unsent = search rules }

pub invariant_of-self-2 : goal.invariant_of-self-2
invariant_of-self-2 c =
    let s = c.args.self.now in
    let ask = c.args.ask.now in
    let settled = (subst IsNode c.self.view_is c.self.invariant.node).server.settled in
    let taken = range_taken s.jobs s.id s.holding.table ask ∙ sym c.is_asked.ensures ∙ c.if-not-is_asked.false in
    let due = c.in_ok-dues.ensures ∙ (λ i. answering_by (sealed_of c.self.inside.own) (c.node.ensures i) (c.proc.ensures.value i) (c.level.ensures.value i)) in
    let its =
    asked_steps (server_in c.self.inside) s c.self.view_is (frames.RangeAsk ask) ask (λ x. x.holding) (λ x. answering x.holding ask.node ask.proc ask.level)
    (range_is s.jobs s.id s.holding settled ask taken) (range_sent s.jobs s.id s.holding settled s.marks ask taken) _ _ c.args.out.now.items _ due
    c.in_ok-hand_out.ensures.marks c.in_ok-hand_out.ensures.frames in
    content_after c.self.inside c.self.invariant s c.self.view_is (Act.deliver (frames.RangeAsk ask)) c.hand_out.new.marks its.ok
