use Rattle.std.proofs.Common.{◌≡◌, inl, inr, sym, ap, ◌∙◌, subst}
use Rattle.std.specs.Prelude.{Some}
use Rattle.std.specs.List.{AllByRecursion}
use Rattle.std.specs.List.Sorted.{IsStrictlySortedBy}
use Rattle.std.specs.Map.{keys_of}
use Rattle.std.specs.Ordering.{nat_cmp}
use Rattle.std.specs.BTreeMap.{get}
use Rattle.std.proofs.lemmas.List.Elements.{recursion_from_All}
use Rattle.pmg_value.specs.Lists.{In}
use Rattle.pmg_lane.specs.Waiting.{list_items}
use Rattle.pmg_lane.proofs.Settling.{alike_itself, alike_trans}
use Rattle.pmg_lane.proofs.Listing.{rows_above, rows_sorted}
use Rattle.pmg_lane.proofs.Moving.{has_stays, places_itself, stay_trans}
use Rattle.pmg_lane.proofs.Waits.{none_up_to, waits_somewhere}
use Rattle.pmg_lane.proofs.waiting.Waiting.make_listed_places.Goals as goal

pub loop-number-init : goal.loop-number-init
loop-number-init c =
    let lists = c.args.self.now.lists in
    let all = c.into_iter-number-iterator.ensures.into_iter_gives ∙ c.iter-number-items.ensures.rest in
    record {
      alike = alike_itself c.args.entries.now;
      stay = places_itself c.args.entries.now;
      places = λ n e i. inl (subst (λ es. In n (keys_of es)) (sym all) (waits_somewhere lists n e i));
      found = subst (AllByRecursion (λ e. get nat_cmp lists e.0 ≡ Some e.1)) (sym all)
          (recursion_from_All (λ e. get nat_cmp lists e.0 ≡ Some e.1) lists.entries c.iter-number-items.ensures.found);
      ordered = subst (λ es. IsStrictlySortedBy nat_cmp (keys_of es)) (sym all) c.iter-number-items.ensures.ordered;
    }

pub returns-then-level-number-clause-places : goal.returns-then-level-number-clause-places
returns-then-level-number-clause-places c n up e i = elim (c.loop-number.invariant.places n e i) [
  | inr there ↦ there
  | inl left ↦
      let step = c.in-Some.ensures.steps in
      let above = rows_above nat_cmp step c.loop-number.invariant.ordered in
      absurd (none_up_to c.args.level c.in-Some.number.now _ n c.if-level-number.true above (subst (λ es. In n (keys_of es)) step left) up)
]

pub loop-number-preserved : goal.loop-number-preserved
loop-number-preserved c =
    let step = c.in-Some.ensures.steps in
    let inv = c.loop-number.invariant in
    let made = c.in_ok-make_places.ensures in
    let found = subst (AllByRecursion (λ e. get nat_cmp c.args.self.now.lists e.0 ≡ Some e.1)) step inv.found in
    let a = c.loop-number.entries in
    let b = c.make_places.new.self in
    record {
      alike = alike_trans c.args.entries.now a b inv.alike made.same;
      stay = stay_trans c.args.entries.now a b inv.stay made.stay;
      places = λ n e i. elim (inv.places n e i) [
        | inr there ↦ inr (has_stays a b c.args.level e.number e.key made.stay there)
        | inl left ↦ elim (subst (λ es. In n (keys_of es)) step left) [
          | inl here ↦ inr (made.places e (subst (In e) (sym c.deref.ensures.value)
              (subst (λ o. In e (list_items o)) (ap (get nat_cmp c.args.self.now.lists) here ∙ found.0) i)))
          | inr rest ↦ inl rest
        ]
      ];
      found = found.1;
      ordered = rows_sorted nat_cmp step inv.ordered;
    }

pub returns-clause-places : goal.returns-clause-places
returns-clause-places c n up e i = elim (c.loop-number.invariant.places n e i) [
  | inr there ↦ there
  | inl left ↦ absurd (subst (λ es. In n (keys_of es)) c.in-None.ensures.steps.0 left)
]
