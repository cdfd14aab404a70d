use Rattle.std.proofs.Common.{◌≡◌, refl, sym, ap, subst, ◌∙◌}
use Rattle.std.specs.Prelude.{Some}
use Rattle.std.specs.BTreeMap.{get}
use Rattle.std.specs.List.{AllByRecursion}
use Rattle.std.proofs.lemmas.List.Elements.{recursion_from_All}
use Rattle.pmg_join.proofs.MapSteps.{IsSeen, room_start, room_next, room_made, room_none}
use Rattle.pmg_join.proofs.map_join.MapJoinTwoPhaseJoin.make_room.Goals as goal

pub loop-key-init : goal.loop-key-init
loop-key-init g c =
    let cmp = g.K.Ord.cmp in
    let others = c.args.other.now.table in
    let all = c.into_iter-key-iterator.ensures.into_iter_gives ∙ c.iter-key-items.ensures.rest in
    record {
      same = λ q. refl;
      room = λ q. subst (λ es. IsSeen cmp g.J.TwoPhaseJoin.HasRoom others c.args.self.now.table es q) (sym all)
          (room_start g.met.K.Ord.total g.met.K.Element.exact g.J.TwoPhaseJoin.HasRoom others c.args.self.now.table q);
      found = subst (AllByRecursion (λ e. get cmp others e.0 ≡ Some e.1)) (sym all)
          (recursion_from_All (λ e. get cmp others e.0 ≡ Some e.1) others.entries c.iter-key-items.ensures.found);
    }

pub loop-key-preserved-in-Continue-1 : goal.loop-key-preserved-in-Continue-1
loop-key-preserved-in-Continue-1 g c =
    let cmp = g.K.Ord.cmp in
    let total = g.met.K.Ord.total in
    let exact = g.met.K.Element.exact in
    let HasRoom = g.J.TwoPhaseJoin.HasRoom in
    let others = c.args.other.now.table in
    let new = c.make_room_at.new.self.table in
    let step = c.in-Some.ensures.steps in
    let inv = c.loop-key.invariant in
    let made = c.in_ok-make_room_at.ensures in
    let found = subst (AllByRecursion (λ e. get cmp others e.0 ≡ Some e.1)) step inv.found in
    record {
      same = λ q. made.same q ∙ inv.same q;
      room = room_next total exact HasRoom others c.loop-key.self.table new c.in-Some.key.now c.in-Some.place.now c.loop-key.key-iterator c.next.new.self step
          (room_made total exact HasRoom others new c.in-Some.key.now c.in-Some-place.part (found.0 ∙ ap Some c.in-Some-place.is) made.room) made.stay inv.room;
      found = found.1;
    }

pub loop-key-preserved : goal.loop-key-preserved
loop-key-preserved g c =
    let cmp = g.K.Ord.cmp in
    let total = g.met.K.Ord.total in
    let exact = g.met.K.Element.exact in
    let HasRoom = g.J.TwoPhaseJoin.HasRoom in
    let others = c.args.other.now.table in
    let table = c.loop-key.self.table in
    let step = c.in-Some.ensures.steps in
    let inv = c.loop-key.invariant in
    let found = subst (AllByRecursion (λ e. get cmp others e.0 ≡ Some e.1)) step inv.found in
    record {
      same = inv.same;
      room = room_next total exact HasRoom others table table c.in-Some.key.now c.in-Some.place.now c.loop-key.key-iterator c.next.new.self step
          (room_none total exact HasRoom others table c.in-Some.key.now (found.0 ∙ ap Some c.in_default.is)) (λ q t apart room. room) inv.room;
      found = found.1;
    }
