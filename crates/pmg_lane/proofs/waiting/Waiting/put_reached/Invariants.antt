use Rattle.std.proofs.Common.{ℕ, ◌≡◌, ◌<◌}
use Rattle.std.specs.Ordering.{nat_cmp}
use Rattle.std.specs.BTreeMap.{get, btree_map_len}
use Rattle.pmg_lane.specs.Entries.{LateFrom, NoneLeft, PlacesStay, ReadsWithin}
use Rattle.pmg_lane.specs.Waiting.{AreAllFrom, HaveReached, Stocks}
use Rattle.pmg_lane.proofs.waiting.Waiting.put_reached.Given as goal

-- those of the lists that were taken out are put, and there are places for the others that are reached
abbrev pub invariant-loop-list : goal.invariant-loop-list
invariant-loop-list l = record {
  stocks : Stocks l.level l.fn.entries l.fn.self.lists NoneLeft l.entries l.self.lists NoneLeft;
  within : ReadsWithin l.level l.entries;
  late : LateFrom l.level l.fn.entries l.entries;
  places : PlacesStay l.fn.entries l.entries;
  numbered : AreAllFrom l.self.lists;
  room : HaveReached l.entries l.self.lists l.level;
  others : (n : ℕ) → l.level < n → get nat_cmp l.self.lists n ≡ get nat_cmp l.fn.self.lists n;
}

abbrev pub decreases-loop-list : goal.decreases-loop-list
decreases-loop-list l = btree_map_len l.self.lists
