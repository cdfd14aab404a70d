use Rattle.std.proofs.Common.{◌≡◌, sym, ap, subst, ◌∙◌}
use Rattle.std.specs.Prelude.{Some}
use Rattle.std.specs.Option.{option_map, option_to_list}
use Rattle.std.specs.List.{flat_map, fold, AllByRecursion}
use Rattle.std.specs.List.Sorted.{IsStrictlySortedBy}
use Rattle.std.specs.BTreeMap.{get}
use Rattle.std.specs.Map.{keys_of}
use Rattle.std.proofs.lemmas.List.Elements.{recursion_from_All}
use Rattle.pmg_commit.specs.Entries.{best_of_two}
use Rattle.pmg_join.specs.Places.{placed}
use Rattle.pmg_lane.specs.Entries.{late_cmp, late_at, late_entry}
use Rattle.pmg_lane.specs.Readings.{seen_entry}
use Rattle.pmg_lane.proofs.Listing.{rows_above, rows_sorted}
use Rattle.pmg_lane.proofs.Reading.{none_reached, late_seen}
use Rattle.pmg_lane.proofs.entries.Entries.reading_at.Goals as goal

pub loop-place-init : goal.loop-place-init
loop-place-init c =
    let a = c.args.self.now in
    let all = c.into_iter-place-iterator.ensures.into_iter_gives ∙ c.iter-place-items.ensures.rest in
    record {
      best = λ i. fold (best_of_two c.args.level c.args.key.now) (c.reading-best.ensures i) (flat_map (λ place. option_to_list (late_at a place)) (keys_of (all i)));
      found = subst (AllByRecursion (λ e. get late_cmp a.late e.0 ≡ Some e.1)) (sym all)
          (recursion_from_All (λ e. get late_cmp a.late e.0 ≡ Some e.1) a.late.entries c.iter-place-items.ensures.found);
      ordered = subst (λ es. IsStrictlySortedBy late_cmp (keys_of es)) (sym all) c.iter-place-items.ensures.ordered;
    }

pub returns-then-place-level : goal.returns-then-place-level
returns-then-place-level c =
    let a = c.args.self.now in
    let step = c.in-Some.ensures.steps in
    let inv = c.loop-place.invariant in
    let o = option_map (seen_entry c.args.key.now) c.loop-place.best in
    sym (none_reached a c.args.level c.args.key.now o c.in-Some.place.now (keys_of c.next.new.self) c.if-place-level.true (rows_above late_cmp step inv.ordered))
    ∙ ap (λ es. fold (best_of_two c.args.level c.args.key.now) o (flat_map (λ place. option_to_list (late_at a place)) (keys_of es))) (sym step)
    ∙ inv.best

pub loop-place-preserved : goal.loop-place-preserved
loop-place-preserved c =
    let a = c.args.self.now in
    let f = best_of_two c.args.level c.args.key.now in
    let step = c.in-Some.ensures.steps in
    let inv = c.loop-place.invariant in
    let place = c.in-Some.place.now in
    let o = option_map (seen_entry c.args.key.now) c.loop-place.best in
    let next = option_map (seen_entry c.args.key.now) c.better_late-best.result in
    let found = subst (AllByRecursion (λ e. get late_cmp a.late e.0 ≡ Some e.1)) step inv.found in
    record {
      best = late_seen a c.args.level c.args.key.now o next place (keys_of c.next.new.self)
          (c.better_late-best.ensures ∙ ap (λ there. fold f o (option_to_list (option_map (late_entry place) (placed there)))) (sym found.0))
          ∙ ap (λ es. fold f o (flat_map (λ place. option_to_list (late_at a place)) (keys_of es))) (sym step)
          ∙ inv.best;
      found = found.1;
      ordered = rows_sorted late_cmp step inv.ordered;
    }
