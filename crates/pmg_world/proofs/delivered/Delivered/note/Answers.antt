use Rattle.std.proofs.Common.{[], ◌∷◌, Option, ℕ, sym, subst}
use Rattle.pmg_world.specs.Delivering.{AddsDelivered, with_number}
use Rattle.pmg_world.specs.Keeping.{happened_so}
use Rattle.pmg_world.specs.Telling.{event_of}
use Rattle.pmg_world.proofs.Deliveries.{last_noted}
use Rattle.pmg_world.proofs.delivered.Delivered.note.Goals as goal

pub returns : goal.returns
returns c =
    let frames = c.args.self.now.frames in
    let h = happened_so (event_of c.args.event.now) c.args.answer.now in
    subst (λ (last : Option ℕ). AddsDelivered (with_number frames last) (h ∷ []) (with_number frames c.frame_of-self.result)) (sym c.requires)
    (last_noted frames c.frame_of-self.result h c.frame_of-self.ensures)
