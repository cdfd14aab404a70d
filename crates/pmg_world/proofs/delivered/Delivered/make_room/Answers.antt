use Rattle.std.proofs.Common.{[], Option, ℕ, sym, subst}
use Rattle.pmg_world.specs.Delivering.{AddsDelivered, with_number}
use Rattle.pmg_world.proofs.Deliveries.{last_kept}
use Rattle.pmg_world.proofs.delivered.Delivered.make_room.Goals as goal

pub returns-in_ok-insert-clause-same : goal.returns-in_ok-insert-clause-same
returns-in_ok-insert-clause-same c =
    subst (λ (last : Option ℕ). AddsDelivered (with_number c.args.self.now.frames last) [] c.insert.new.self) (sym c.in-Some.is)
    (last_kept c.args.self.now.frames c.insert.new.self c.in-Some.frame c.saturating_sub.result c.saturating_sub.ensures c.in_ok-insert.ensures.ok)
