use Rattle.std.proofs.Common.{◌∙◌, [], ◌∷◌, Err, ap, subst}
use Rattle.std.proofs.lemmas.Result.{err_from_is_err_and}
use Rattle.pmg_node_model.specs.Acts.{Request}
use Rattle.pmg_node_parts.specs.Calls.{get_of}
use Rattle.pmg_group_model.specs.Worlds.{Event}
use Rattle.pmg_world.specs.Delivering.{AddsDelivered, all_delivered}
use Rattle.pmg_world.specs.Keeping.{happened_so, replied}
use Rattle.pmg_world.specs.Stages.{HappensOnce}
use Rattle.pmg_world.specs.GroupStates.{GroupState, group_state}
use Rattle.pmg_world.proofs.Deliveries.{request_delivers}
use Rattle.pmg_world.proofs.GroupLemmas.{not_short}
use Rattle.pmg_world.proofs.LedLemmas.{led_group}
use Rattle.pmg_world.proofs.StateLemmas.{adds_frames, happens_once, played_then}
use Rattle.pmg_world.proofs.scene.Scene.ask.Goals as goal

pub returns-in_err-make_room : goal.returns-in_err-make_room
returns-in_err-make_room c is =
    let p = err_from_is_err_and c.from_residual.result c.from_residual.ensures.1 in
    not_short c.from_residual.result (p.1 ∙ ap Err p.2) is

pub get-requires : goal.get-requires
get-requires c = led_group c.self.inside.group c.self.invariant.told c.self.invariant.led

-- what is asked
abbrev request : (c : goal.After-get) → Request
request c = Request.ask c.args.proc.now (get_of c.args.target.now c.args.key.now) c.args.mode

-- what happens
abbrev asked : (c : goal.After-get) → Event
asked c = Event.request c.args.index (request c)

-- the frames that were delivered then
frames : (c : goal.After-get) → AddsDelivered (all_delivered c.self.inside.delivered) (happened_so (asked c) c.get.result ∷ []) (all_delivered c.make_room.new.self)
frames c =
    adds_frames (all_delivered c.self.inside.delivered) (all_delivered c.make_room.new.self) (all_delivered c.make_room.new.self) [] (happened_so (asked c) c.get.result ∷ [])
    c.in_ok-make_room.ensures.same (request_delivers (all_delivered c.make_room.new.self) c.args.index (request c) (replied c.get.result))

pub invariant_of-self-2 : goal.invariant_of-self-2
invariant_of-self-2 c =
    played_then c.self.inside.group c.get.new.self (all_delivered c.self.inside.delivered) (all_delivered c.make_room.new.self) (asked c) c.get.result c.self.invariant
    c.get.ensures.step c.get.ensures.memory (frames c)

pub returns : goal.returns
returns c is =
    subst (λ (w : GroupState). HappensOnce w (asked c) (replied c.get.result) (group_state c.get.new.self (all_delivered c.make_room.new.self))) c.self.view_is
    (happens_once c.self.inside.group c.get.new.self (all_delivered c.self.inside.delivered) (all_delivered c.make_room.new.self) (asked c) c.get.result c.self.invariant is
    c.get.ensures.step (frames c))
