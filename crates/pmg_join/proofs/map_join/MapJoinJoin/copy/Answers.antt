use Rattle.std.proofs.Common.{◌≡◌, cond, sym, subst, ◌∙◌}
use Rattle.std.specs.Prelude.{Some}
use Rattle.std.specs.BTreeMap.{get, is_at}
use Rattle.std.specs.List.{AllByRecursion}
use Rattle.std.proofs.lemmas.List.Elements.{recursion_from_All}
use Rattle.pmg_join.specs.Maps.{meant_at}
use Rattle.pmg_join.proofs.MapSteps.{IsCopied, copied_start, copied_part, copied_none, copied_end}
use Rattle.pmg_join.proofs.map_join.MapJoinJoin.copy.Goals as goal

pub loop-key-init : goal.loop-key-init
loop-key-init g c =
    let cmp = g.K.Ord.cmp in
    let table = c.args.self.now.table in
    let all = c.into_iter-key-iterator.ensures.into_iter_gives ∙ c.iter-key-items.ensures.rest in
    record {
      same = λ q. subst (λ es. IsCopied cmp g.J.Join.meaning table c.new-copy.result.table es q) (sym all)
          (copied_start g.met.K.Ord.total g.met.K.Element.exact g.J.Join.meaning table c.new-copy.result.table c.new-copy.ensures q);
      found = subst (AllByRecursion (λ e. get cmp table e.0 ≡ Some e.1)) (sym all)
          (recursion_from_All (λ e. get cmp table e.0 ≡ Some e.1) table.entries c.iter-key-items.ensures.found);
    }

pub loop-key-preserved-in_ok-replace : goal.loop-key-preserved-in_ok-replace
loop-key-preserved-in_ok-replace g c =
    let cmp = g.K.Ord.cmp in
    let meaning = g.J.Join.meaning in
    let table = c.args.self.now.table in
    let copy = c.loop-key.copy.table in
    let step = c.in-Some.ensures.steps in
    let inv = c.loop-key.invariant in
    let found = subst (AllByRecursion (λ e. get cmp table e.0 ≡ Some e.1)) step inv.found in
    record {
      same = copied_part g.met.K.Ord.total g.met.K.Element.exact meaning table copy c.replace.new.self.table c.in-Some.key.now c.in-Some.place.now
          c.loop-key.key-iterator c.next.new.self c.in-Some-place.part (meaning c.in_ok-copy-2.field-0) step found.0 c.in-Some-place.is c.in_ok-copy-2.ensures
          (λ q. c.in_ok-replace.ensures.ok q
          ∙ (λ i. cond (is_at (cmp (c.in_ok-copy.ensures i)) q) (Some (meaning c.in_ok-copy-2.field-0)) (meant_at cmp meaning copy q)))
          inv.same;
      found = found.1;
    }

pub loop-key-preserved : goal.loop-key-preserved
loop-key-preserved g c =
    let cmp = g.K.Ord.cmp in
    let table = c.args.self.now.table in
    let step = c.in-Some.ensures.steps in
    let inv = c.loop-key.invariant in
    let found = subst (AllByRecursion (λ e. get cmp table e.0 ≡ Some e.1)) step inv.found in
    record {
      same = copied_none g.met.K.Ord.total g.met.K.Element.exact g.J.Join.meaning table c.loop-key.copy.table c.in-Some.key.now c.in-Some.place.now
          c.loop-key.key-iterator c.next.new.self step found.0 c.in_default.is inv.same;
      found = found.1;
    }

pub returns : goal.returns
returns g c = λ i q. copied_end g.met.K.Ord.total g.met.K.Element.exact g.J.Join.meaning c.args.self.now.table c.loop-key.copy.table c.loop-key.key-iterator c.in-None.ensures.steps.0 c.loop-key.invariant.same q i
