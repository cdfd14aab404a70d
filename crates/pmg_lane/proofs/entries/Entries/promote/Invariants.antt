use Rattle.std.proofs.Common.{ℕ, List}
use Rattle.std.specs.BTreeMap.{btree_map_len}
use Rattle.pmg_lane.specs.Entries.{Settles, NoneLeft, HasPlaces, ReadsWithin, IsRoomyTo}
use Rattle.pmg_lane.proofs.entries.Entries.promote.Given as goal

abbrev pub invariant-loop-place : goal.invariant-loop-place
invariant-loop-place l =
    Settles l.level l.fn.self NoneLeft l.self NoneLeft
    × ReadsWithin l.level l.self
    × IsRoomyTo l.level l.self
    × ((n : ℕ) (key : List ℕ) → HasPlaces l.fn.self l.level n key → HasPlaces l.self l.level n key)

abbrev pub decreases-loop-place : goal.decreases-loop-place
decreases-loop-place l = btree_map_len l.self.late
