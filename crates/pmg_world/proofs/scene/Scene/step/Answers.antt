use Rattle.std.proofs.Common.{◌∙◌, [], ◌∷◌, Err, ap, subst}
use Rattle.std.proofs.lemmas.Result.{err_from_is_err_and}
use Rattle.pmg_world.specs.Delivering.{AddsDelivered, all_delivered}
use Rattle.pmg_world.specs.Keeping.{happened_so, replied}
use Rattle.pmg_world.specs.Stages.{HappensOnce}
use Rattle.pmg_world.specs.GroupStates.{GroupState, group_state}
use Rattle.pmg_world.specs.Telling.{event_of}
use Rattle.pmg_world.proofs.GroupLemmas.{not_short}
use Rattle.pmg_world.proofs.LedLemmas.{led_group}
use Rattle.pmg_world.proofs.StateLemmas.{adds_frames, happens_once, played_then}
use Rattle.pmg_world.proofs.scene.Scene.step.Goals as goal

pub returns-in_err-make_room : goal.returns-in_err-make_room
returns-in_err-make_room c is =
    let p = err_from_is_err_and c.from_residual.result c.from_residual.ensures.1 in
    not_short c.from_residual.result (p.1 ∙ ap Err p.2) is

pub happen-answer-requires : goal.happen-answer-requires
happen-answer-requires c = led_group c.self.inside.group c.self.invariant.told c.self.invariant.led

-- the frames that were delivered then
frames : (c : goal.After-note) → AddsDelivered (all_delivered c.self.inside.delivered) (happened_so (event_of c.args.event.now) c.happen-answer.result ∷ []) (all_delivered c.note.new.self)
frames c =
    adds_frames (all_delivered c.self.inside.delivered) (all_delivered c.make_room.new.self) (all_delivered c.note.new.self) [] (happened_so (event_of c.args.event.now) c.happen-answer.result ∷ [])
    c.in_ok-make_room.ensures.same c.note.ensures

pub invariant_of-self-2 : goal.invariant_of-self-2
invariant_of-self-2 c =
    played_then c.self.inside.group c.happen-answer.new.self (all_delivered c.self.inside.delivered) (all_delivered c.note.new.self) (event_of c.args.event.now) c.happen-answer.result c.self.invariant
    c.happen-answer.ensures.step c.happen-answer.ensures.memory (frames c)

pub returns : goal.returns
returns c is =
    subst (λ (w : GroupState). HappensOnce w (event_of c.args.event.now) (replied c.happen-answer.result) (group_state c.happen-answer.new.self (all_delivered c.note.new.self))) c.self.view_is
    (happens_once c.self.inside.group c.happen-answer.new.self (all_delivered c.self.inside.delivered) (all_delivered c.note.new.self) (event_of c.args.event.now) c.happen-answer.result c.self.invariant is
    c.happen-answer.ensures.step (frames c))
