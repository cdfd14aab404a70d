use Rattle.std.proofs.Common.{ℕ}
use Rattle.std.specs.BTreeMap.{btree_map_len}
use Rattle.pmg_commit.specs.Entries.{Entry}
use Rattle.pmg_lane.specs.Entries.{LateFrom, ReadsWithin}
use Rattle.pmg_lane.specs.Waiting.{AreAllFrom, HasRoomUnder, IsWaiting, Stocks, WaitPast, waiting_at}
use Rattle.pmg_lane.proofs.waiting.Waiting.put_others.Given as goal

-- those that were taken out are put, and there is room for the others
abbrev pub invariant-loop-number : goal.invariant-loop-number
invariant-loop-number l = record {
  stocks : Stocks l.level l.fn.entries l.fn.self.lists (IsWaiting l.fn.other.lists) l.entries l.self.lists (IsWaiting l.other.lists);
  within : ReadsWithin l.level l.entries;
  late : LateFrom l.level l.fn.entries l.entries;
  numbered : AreAllFrom l.self.lists;
  lowest : AreAllFrom l.other.lists;
  past : WaitPast l.level l.fn.self.lists → WaitPast l.level l.self.lists;
  room : (n : ℕ) → HasRoomUnder l.entries l.self.lists l.level n (waiting_at l.other.lists n);
  was : (e : Entry) → IsWaiting l.other.lists e → IsWaiting l.fn.other.lists e;
}

abbrev pub decreases-loop-number : goal.decreases-loop-number
decreases-loop-number l = btree_map_len l.other.lists
