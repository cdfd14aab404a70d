use Rattle.std.proofs.Common.{◌≡◌, map, sym, ap, subst, ◌∙◌}
use Rattle.std.specs.Prelude.{Some}
use Rattle.std.specs.Option.{option_map}
use Rattle.std.specs.List.{fold, AllByRecursion}
use Rattle.std.specs.List.Sorted.{IsStrictlySortedBy}
use Rattle.std.specs.Ordering.{nat_cmp}
use Rattle.std.specs.BTreeMap.{get}
use Rattle.std.specs.Map.{keys_of}
use Rattle.std.proofs.lemmas.List.Elements.{recursion_from_All}
use Rattle.pmg_commit.specs.Entries.{best_of_two}
use Rattle.pmg_commit.specs.Pieces.{entry_of}
use Rattle.pmg_lane.specs.Readings.{seen_entry}
use Rattle.pmg_lane.proofs.Listing.{rows_above, rows_sorted}
use Rattle.pmg_lane.proofs.WaitReading.{lists_under, list_seen, no_list_reached}
use Rattle.pmg_lane.proofs.waiting.Waiting.reading_at.Goals as goal

pub loop-number-init : goal.loop-number-init
loop-number-init c =
    let lists = c.args.self.now.lists in
    let all = c.into_iter-number-iterator.ensures.into_iter_gives ∙ c.iter-number-items.ensures.rest in
    record {
      best = ap (λ es. fold (best_of_two c.args.level c.args.key.now) (option_map (seen_entry c.args.key.now) c.args.best) (lists_under lists (keys_of es))) all;
      found = subst (AllByRecursion (λ e. get nat_cmp lists e.0 ≡ Some e.1)) (sym all)
          (recursion_from_All (λ e. get nat_cmp lists e.0 ≡ Some e.1) lists.entries c.iter-number-items.ensures.found);
      ordered = subst (λ es. IsStrictlySortedBy nat_cmp (keys_of es)) (sym all) c.iter-number-items.ensures.ordered;
    }

pub returns-then-level-number : goal.returns-then-level-number
returns-then-level-number c =
    let lists = c.args.self.now.lists in
    let step = c.in-Some.ensures.steps in
    let o = option_map (seen_entry c.args.key.now) c.loop-number.best in
    let above = rows_above nat_cmp step c.loop-number.invariant.ordered in
    sym (no_list_reached lists c.args.level c.args.key.now o c.in-Some.number.now (keys_of c.next.new.self) c.requires c.if-level-number.true above)
    ∙ ap (λ es. fold (best_of_two c.args.level c.args.key.now) o (lists_under lists (keys_of es))) (sym step)
    ∙ c.loop-number.invariant.best

pub loop-number-preserved : goal.loop-number-preserved
loop-number-preserved c =
    let lists = c.args.self.now.lists in
    let step = c.in-Some.ensures.steps in
    let inv = c.loop-number.invariant in
    let number = c.in-Some.number.now in
    let o = option_map (seen_entry c.args.key.now) c.loop-number.best in
    let found = subst (AllByRecursion (λ e. get nat_cmp lists e.0 ≡ Some e.1)) step inv.found in
    record {
      best = list_seen lists c.args.level c.args.key.now o (option_map (seen_entry c.args.key.now) c.best_with-best.result) number c.in-Some.list.now (keys_of c.next.new.self) found.0
          (c.best_with-best.ensures ∙ ap (λ es. fold (best_of_two c.args.level c.args.key.now) o (map entry_of es)) c.deref.ensures.value)
          ∙ ap (λ es. fold (best_of_two c.args.level c.args.key.now) o (lists_under lists (keys_of es))) (sym step)
          ∙ inv.best;
      found = found.1;
      ordered = rows_sorted nat_cmp step inv.ordered;
    }
