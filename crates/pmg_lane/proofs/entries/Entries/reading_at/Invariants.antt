use Rattle.std.proofs.Common.{◌≡◌}
use Rattle.std.specs.Prelude.{Some}
use Rattle.std.specs.Option.{option_map, option_to_list}
use Rattle.std.specs.List.{flat_map, fold, AllByRecursion}
use Rattle.std.specs.BTreeMap.{get}
use Rattle.std.specs.Map.{keys_of}
use Rattle.std.specs.List.Sorted.{IsStrictlySortedBy}
use Rattle.pmg_commit.specs.Entries.{best_of_two}
use Rattle.pmg_lane.specs.Entries.{late_cmp, read_under, late_at, late_list}
use Rattle.pmg_lane.specs.Readings.{seen_entry}
use Rattle.pmg_lane.proofs.entries.Entries.reading_at.Given as goal

-- what is read so far, with the late entries that are left, is what is read of all
abbrev pub invariant-loop-place : goal.invariant-loop-place
invariant-loop-place l = record {
  best : fold (best_of_two l.level l.key) (option_map (seen_entry l.key) l.best) (flat_map (λ place. option_to_list (late_at l.self place)) (keys_of l.place-iterator))
      ≡ fold (best_of_two l.level l.key) (read_under l.self l.key) (late_list l.self);
  found : AllByRecursion (λ e. get late_cmp l.self.late e.0 ≡ Some e.1) l.place-iterator;
  ordered : IsStrictlySortedBy late_cmp (keys_of l.place-iterator);
}
