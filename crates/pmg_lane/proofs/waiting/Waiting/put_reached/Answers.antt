use Rattle.std.proofs.Common.{inl, inr, sym, ◌∙◌, subst, arith}
use Rattle.pmg_value.specs.Lists.{In}
use Rattle.pmg_lane.specs.Waiting.{AreAllFrom}
use Rattle.pmg_lane.proofs.Settling.{late_trans}
use Rattle.pmg_lane.proofs.Moving.{stay_trans, has_stays}
use Rattle.pmg_lane.proofs.Waits.{popped_stocks, stocks_then, left_waits, left_numbered, left_out}
use Rattle.pmg_lane.proofs.waiting.Waiting.put_reached.Goals as goal

pub put_all-requires-clause-places : goal.put_all-requires-clause-places
put_all-requires-clause-places c e i =
    let p = c.in-Some.ensures in
    c.loop-list.invariant.room c.in-Some.field-0-0 p.reached e (subst (In e) (sym p.there) i)

pub loop-list-preserved : goal.loop-list-preserved
loop-list-preserved c =
    let p = c.in-Some.ensures in
    let n = c.in-Some.field-0-0 in
    let a = c.loop-list.entries in
    let b = c.put_all.new.self in
    let lists = c.loop-list.self.lists in
    let others = c.pop_reached.new.self.lists in
    let inv = c.loop-list.invariant in
    let put = c.put_all.ensures in
    let level = c.args.level in
    record {
      stocks = stocks_then level c.args.entries.now a b c.args.self.now.lists lists others _ inv.stocks
          (popped_stocks level a b lists others n c.in-Some.list.items p.there p.taken put.settles);
      within = put.within;
      late = late_trans level c.args.entries.now a b inv.late put.late;
      places = stay_trans c.args.entries.now a b inv.places put.stay;
      numbered = left_numbered lists others n p.taken inv.numbered;
      room = λ m up e i. has_stays a b level e.number e.key put.stay (inv.room m up e (left_waits lists others n p.taken m e i));
      others = λ m over. elim (left_out lists others n p.taken m) [
        | inr same ↦ same ∙ inv.others m over
        | inl gone ↦ absurd (let reached = p.reached in let is = gone.0 in let bad : ⊥ = omega (arith, reached, is, over) in bad)
      ];
    }

pub returns-clause-numbered : goal.returns-clause-numbered
returns-clause-numbered c = subst AreAllFrom (sym c.in_default.ensures.none) c.loop-list.invariant.numbered
