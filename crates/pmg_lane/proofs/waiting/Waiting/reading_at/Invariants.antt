use Rattle.std.proofs.Common.{◌≡◌}
use Rattle.std.specs.Prelude.{Some}
use Rattle.std.specs.Option.{option_map}
use Rattle.std.specs.List.{fold, AllByRecursion}
use Rattle.std.specs.Ordering.{nat_cmp}
use Rattle.std.specs.BTreeMap.{get}
use Rattle.std.specs.Map.{keys_of}
use Rattle.std.specs.List.Sorted.{IsStrictlySortedBy}
use Rattle.pmg_commit.specs.Entries.{best_of_two}
use Rattle.pmg_lane.specs.Readings.{seen_entry}
use Rattle.pmg_lane.specs.Waiting.{waiting_list}
use Rattle.pmg_lane.proofs.WaitReading.{lists_under}
use Rattle.pmg_lane.proofs.waiting.Waiting.reading_at.Given as goal

-- what is read so far, with the lists that are left, is what is read of all
abbrev pub invariant-loop-number : goal.invariant-loop-number
invariant-loop-number l = record {
  best : fold (best_of_two l.level l.key) (option_map (seen_entry l.key) l.best) (lists_under l.self.lists (keys_of l.number-iterator))
      ≡ fold (best_of_two l.level l.key) (option_map (seen_entry l.key) l.fn.best) (waiting_list l.self.lists);
  found : AllByRecursion (λ e. get nat_cmp l.self.lists e.0 ≡ Some e.1) l.number-iterator;
  ordered : IsStrictlySortedBy nat_cmp (keys_of l.number-iterator);
}
