use Rattle.std.proofs.Common.{refl, sym, ◌∙◌}
use Rattle.pmg_join.proofs.MapSteps.{popped_room, popped_part, popped_none, nothing_left}
use Rattle.pmg_join.proofs.map_join.MapJoinTwoPhaseJoin.take.Goals as goal

pub loop-key-preserved-in-Some-place : goal.loop-key-preserved-in-Some-place
loop-key-preserved-in-Some-place g c =
    let total = g.met.K.Ord.total in
    let exact = g.met.K.Element.exact in
    let m = c.loop-key.places in
    let n = c.pop_place.new.tree in
    let old = c.loop-key.self.table in
    let new = c.take_at.new.self.table in
    let p = c.in-Some.ensures in
    let inv = c.loop-key.invariant in
    record {
      room = popped_room total exact m n old new c.in-Some.key c.in-Some.place p.there p.taken g.J.TwoPhaseJoin.HasRoom c.take_at.ensures.stay inv.room;
      joined = λ q. popped_part total exact m n old new c.in-Some.key c.in-Some.place p.there p.taken g.J.Join.joined g.J.Join.meaning c.in-Some-place.part c.in-Some-place.is
          c.take_at.ensures.joined q ∙ inv.joined q;
    }

pub loop-key-preserved : goal.loop-key-preserved
loop-key-preserved g c =
    let total = g.met.K.Ord.total in
    let exact = g.met.K.Element.exact in
    let m = c.loop-key.places in
    let n = c.pop_place.new.tree in
    let old = c.loop-key.self.table in
    let p = c.in-Some.ensures in
    let inv = c.loop-key.invariant in
    record {
      room = popped_room total exact m n old old c.in-Some.key c.in-Some.place p.there p.taken g.J.TwoPhaseJoin.HasRoom (λ q apart. refl) inv.room;
      joined = λ q. popped_none total exact m n old old c.in-Some.key c.in-Some.place p.there p.taken g.J.Join.joined g.J.Join.meaning c.in_default-place.is q ∙ inv.joined q;
    }

pub returns : goal.returns
returns g c = λ i q. (sym (nothing_left g.met.K.Ord.total g.met.K.Element.exact g.J.Join.joined g.J.Join.meaning c.loop-key.self.table c.loop-key.places c.in_default.ensures.none q) ∙ c.loop-key.invariant.joined q) i
