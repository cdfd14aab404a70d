use Rattle.std.proofs.Common.{List, ◌++◌, refl, sym, ap, ◌∙◌}
use Rattle.std.specs.Option.{option_to_list}
use Rattle.std.proofs.lemmas.List.{append_assoc, append-nil}
use Rattle.pmg_dmodex.specs.Levels.{Levels}
use Rattle.pmg_node_model.specs.Choosing.{frame_for, marked_if, sends}
use Rattle.pmg_node_parts.specs.Owns.{sealed_of}
use Rattle.pmg_node_model.specs.declared.sent.Sent.{Sent}
use Rattle.pmg_node_parts.proofs.SendLemmas.{sends_frames, sends_marks}
use Rattle.pmg_node_parts.proofs.due.send_each.Goals as goal

pub loop-due-init : goal.loop-due-init
unfolding sends
loop-due-init c = (sym (append-nil c.args.going.now.frames.items), refl, refl, λ h. h)

pub loop-due-preserved : goal.loop-due-preserved
loop-due-preserved c =
    let sealer = sealed_of c.args.own.now in
    let m = c.args.marks.now in
    let d = c.in-Some.due in
    let done = c.loop-due.yielded in
    let out = option_to_list (frame_for sealer (sends sealer m done).marks d) in (
      c.in_ok-send_one.ensures.frames
          ∙ (λ i. c.loop-due.invariant.0 i ++ option_to_list (frame_for sealer (c.loop-due.invariant.1 i) d))
          ∙ append_assoc c.args.going.now.frames.items (sends sealer m done).frames out
          ∙ ap (λ (x : List Sent). c.args.going.now.frames.items ++ x) (sym (sends_frames sealer m done d)),
      c.in_ok-send_one.ensures.marks ∙ ap (λ (x : Levels). marked_if x (frame_for sealer x d)) c.loop-due.invariant.1 ∙ sym (sends_marks sealer m done d),
      c.send_one.ensures.back ∙ c.loop-due.invariant.2,
      λ h. c.send_one.ensures.set (c.loop-due.invariant.3 h),
    )

pub returns-in_err-send_one-clause-back : goal.returns-in_err-send_one-clause-back
returns-in_err-send_one-clause-back c = c.send_one.ensures.back ∙ c.loop-due.invariant.2

pub returns-in_err-send_one-clause-set : goal.returns-in_err-send_one-clause-set
returns-in_err-send_one-clause-set c h = c.send_one.ensures.set (c.loop-due.invariant.3 h)
