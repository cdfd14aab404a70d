use Rattle.std.proofs.Common.{◌≡◌, ◌≤◌, ◌∙◌, ◌+◌, length, arith, rules, sym, ap, subst}
use Rattle.std.specs.FinSet as set
use Rattle.std.proofs.lemmas.Result.{IfOk-weaker}
use Rattle.pmg_world.specs.Delivering.{all_delivered}
use Rattle.pmg_world.specs.ReplyLines.{flow_line}
use Rattle.pmg_world.specs.Stages.{Flows}
use Rattle.pmg_world.specs.GroupStates.{GroupState, group_state}
use Rattle.pmg_world.proofs.FlowLemmas.{Flowing, flows_end, flows_first, flows_on, flows_past}
use Rattle.pmg_world.proofs.StateLemmas.{played_lawful, played_reached}
use Rattle.pmg_world.proofs.scene.Scene.flow.Goals as goal
use Rattle.pmg_world.proofs.scene.Scene.flow.Goals.{then-not-contains+in_ok-deliver, else-not-contains}

pub loop-frame-init : goal.loop-frame-init
loop-frame-init c =
    let g = c.self.inside.group in
    let frames = all_delivered c.self.inside.delivered in
    let least : c.min-frame.result ≤ c.level.result = search rules in
    let first = flows_first (group_state g frames) c.level.result c.min-frame.result (played_reached g frames c.self.invariant) (played_lawful g frames c.self.invariant) c.level.ensures least in
    record { within = search rules; flows = subst (λ (w : GroupState). Flowing w w c.min-frame.result 0) c.self.view_is first }

pub overflow_add-done : goal.overflow_add-done
overflow_add-done c = omega (arith, c.loop-frame.invariant.flows.few, c.loop-frame-test.true)

pub loop-frame-preserved : goal.loop-frame-preserved
loop-frame-preserved c =
    let old = c.args.self.now in
    let mid = c.loop-frame.self in
    let next = c.loop-frame.frame + 1 in
    let there : c.contains.result ≡ set.contains mid.delivered next = c.contains.ensures ∙ ap (λ (w : GroupState). set.contains w.delivered next) c.self-in-loop-frame.view_is in
    record {
      within = omega (arith, c.loop-frame-test.true);
      flows =
          elim c.if-not-contains.branch [
            | then-not-contains+in_ok-deliver w ↦
                subst (λ (v : GroupState). Flowing old v next c.if-not-contains.done) (sym w.self-is) (subst (Flowing old w.deliver.new.self next) (sym w.done-is)
                (flows_on old mid w.deliver.new.self c.loop-frame.frame c.loop-frame.done w.in_ok-deliver.ensures.0 c.loop-frame.invariant.flows (sym there ∙ w.if-not-contains.true) w.in_ok-deliver.ensures.1))
            | else-not-contains w ↦
                subst (λ (v : GroupState). Flowing old v next c.if-not-contains.done) (sym w.self-is) (subst (Flowing old mid next) (sym w.done-is)
                (flows_past old mid c.loop-frame.frame c.loop-frame.done c.loop-frame.invariant.flows (sym there ∙ w.if-not-contains.false)))
          ];
    }

pub returns : goal.returns
returns c =
    let end : c.loop-frame.frame ≡ c.len-count.result = omega (arith, c.loop-frame.invariant.within, c.loop-frame-test.false) in
    let all = subst (λ n. Flowing c.args.self.now c.loop-frame.self n c.loop-frame.done) end c.loop-frame.invariant.flows in
    let sent : c.len-count.result ≡ length c.self.inside.group.sent.items = search rules in
    let count = sent ∙ ap (λ (w : GroupState). length w.sent) c.self.view_is in
    IfOk-weaker c.flow_line.result (λ text. text.items ≡ flow_line c.loop-frame.done) (λ text. Flows c.args.self.now text.items c.loop-frame.self)
    (λ text line. flows_end c.args.self.now c.loop-frame.self c.len-count.result c.loop-frame.done text.items all count line) c.flow_line.ensures
