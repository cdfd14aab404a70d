use Rattle.std.proofs.Common.{ℕ, List, refl, inl, inr, sym, subst, ◌∙◌}
use Rattle.std.specs.List.Sorted.{IsStrictlySortedBy}
use Rattle.std.specs.Map.{keys_of}
use Rattle.std.specs.Ordering.{nat_cmp}
use Rattle.std.specs.Cmp.Lexicographic.{slice_cmp}
use Rattle.pmg_value.specs.Lists.{In}
use Rattle.pmg_value.proofs.RowLemmas.{key_there}
use Rattle.pmg_join.specs.Places.{HasPlace}
use Rattle.pmg_lane.specs.Entries.{late_cmp}
use Rattle.pmg_lane.proofs.Settling.{exact_late}
use Rattle.pmg_lane.proofs.Listing.{rows_above, rows_sorted}
use Rattle.pmg_lane.proofs.Promoting.{not_reached}
use Rattle.pmg_lane.proofs.entries.make_reached_places.Goals as goal

pub loop-place-init : goal.loop-place-init
loop-place-init c =
    let all = c.into_iter-place-iterator.ensures.into_iter_gives ∙ c.iter-place-items.ensures.rest in
    record {
      same = λ q. refl;
      stay = λ q has. has;
      places = λ q has. inl (subst (λ es. In q (keys_of es)) (sym all) (key_there exact_late c.args.late.now.entries q has));
      ordered = subst (λ es. IsStrictlySortedBy late_cmp (keys_of es)) (sym all) c.iter-place-items.ensures.ordered;
    }

pub returns-then-level-place-clause-places : goal.returns-then-level-place-clause-places
returns-then-level-place-clause-places c q has up = elim (c.loop-place.invariant.places q has) [
  | inr there ↦ there
  | inl left ↦
      let step = c.in-Some.ensures.steps in
      let above = rows_above late_cmp step c.loop-place.invariant.ordered in
      absurd (not_reached c.args.level c.in-Some.place.now _ q c.if-level-place.true above (subst (λ es. In q (keys_of es)) step left) up)
]

pub returns-in_err-make_place-clause-same : goal.returns-in_err-make_place-clause-same
returns-in_err-make_place-clause-same c q = c.in_err-make_place.ensures.same q ∙ c.loop-place.invariant.same q

pub returns-in_err-make_place-clause-stay : goal.returns-in_err-make_place-clause-stay
returns-in_err-make_place-clause-stay c q has = c.in_err-make_place.ensures.stay q (c.loop-place.invariant.stay q has)

pub loop-place-preserved : goal.loop-place-preserved
loop-place-preserved c =
    let step = c.in-Some.ensures.steps in
    let inv = c.loop-place.invariant in
    let made = c.in_ok-make_place.ensures in
    record {
      same = λ q. made.same q ∙ inv.same q;
      stay = λ q has. made.stay q (inv.stay q has);
      places = λ q has. elim (inv.places q has) [
        | inr there ↦ inr (made.stay q.1 there)
        | inl left ↦ elim (subst (λ es. In q (keys_of es)) step left) [
          | inl here ↦ inr (subst (λ (p : ℕ × List ℕ). HasPlace (slice_cmp nat_cmp) c.make_place.new.tree p.1) (sym here) made.place)
          | inr rest ↦ inl rest
        ]
      ];
      ordered = rows_sorted late_cmp step inv.ordered;
    }
