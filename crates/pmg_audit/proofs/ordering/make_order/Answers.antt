use Rattle.std.proofs.Common.{◌≡◌, ℕ, List, [], map, refl, sym, subst}
use Rattle.pmg_value.specs.Lists.{In}
use Rattle.pmg_world.specs.Telling.{happened_of}
use Rattle.pmg_audit.specs.Codes.{all_of}
use Rattle.pmg_audit.specs.Going.{SomeOpen}
use Rattle.pmg_audit.specs.Orders.{AreTold, moves_at}
use Rattle.pmg_audit.specs.declared.moves.Lane.{Lane}
use Rattle.pmg_audit.specs.declared.ordering.Making.{Making}
use Rattle.pmg_audit.proofs.GoingSteps.{going_end, no_order}
use Rattle.pmg_audit.proofs.ordering.make_order.Goals as goal

pub returns-then-is_open-clause-unordered : goal.returns-then-is_open-clause-unordered
returns-then-is_open-clause-unordered c = λ _.
    let all = all_of c.args.lanes.items in
    let m : Making = c.in_ok-making.making in
    let making = c.in_ok-making.ensures.making in
    let open_at : SomeOpen (all_of m.lanes.items) = subst (λ (ls : List Lane). SomeOpen (all_of ls)) c.deref.ensures.value (c.if-is_open.ensures.open refl) in
    no_order all (all_of m.lanes.items) m.sends.frames.items (map happened_of m.told.items) making.going
    (λ n ready. subst (In n) c.in_ok-making.ensures.ended (making.awake n ready)) open_at.0 open_at.1

pub returns-clause-ok : goal.returns-clause-ok
returns-clause-ok c =
    let all = all_of c.args.lanes.items in
    let m : Making = c.in_ok-making.making in
    let closed : (n : ℕ) → moves_at (all_of m.lanes.items) n ≡ [] =
    subst (λ (ls : List Lane). (n : ℕ) → moves_at (all_of ls) n ≡ []) c.deref.ensures.value (c.if-is_open.ensures.closed refl) in
    subst (λ v. AreTold all (map happened_of c.into_order.result.told.items) v.items) (sym c.into_order.ensures.sent)
    (subst (λ v. AreTold all (map happened_of v.items) m.sends.frames.items) (sym c.into_order.ensures.told)
    (going_end all (all_of m.lanes.items) m.sends.frames.items (map happened_of m.told.items) c.in_ok-making.ensures.making.going closed))
