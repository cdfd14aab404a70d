-- What several pieces told of one process: the numbers of its ranges, and its entries.
use Rattle.std.specs.Prelude.{◌≤◌, ℕ, List, ◌++◌, Option}
use Rattle.std.specs.List.{fold}
use Rattle.std.specs.FinSet as set
use Rattle.pmg_join.specs.Ranges.{set_of, AreApart, Covers, Spans, HaveRoom}
use Rattle.pmg_commit.specs.Entries.{Entry, best_of_two}
use Rattle.pmg_commit.specs.Levels.{level}
use Rattle.pmg_commit.specs.Knowledge.{Knowledge, numbers_between}
use Rattle.pmg_commit.specs.declared.piece.PieceEntry.{PieceEntry}
use Rattle.pmg_lane.specs.Entries.{HasEntry, read_under, late_list, entries_list, ReadsWithin, LatePast, IsRoomyTo, HasPlaces}
use Rattle.pmg_lane.specs.Waiting.{waiting_at, waiting_list, wait_number, AreAllFrom, HasRoomUnder, HaveReached, WaitPast}
use Rattle.pmg_lane.specs.declared.merged.Merged.{Merged}
use Rattle.pmg_commit.specs.declared.piece.TheConstants.{MAX_COMMIT}

-- what is known of the process
unfoldable pub merged_knowledge : Merged → Knowledge
merged_knowledge t = record { numbers = set_of t.taken.ends; entries = set.from_list (entries_list t.entries ++ waiting_list t.waiting.lists) }

-- its level
unfoldable pub merged_level : Merged → ℕ
merged_level t = level (set_of t.taken.ends)

-- what is known from the commits from+1 to to, of which these are the entries
unfoldable pub told : ℕ → ℕ → List Entry → Knowledge
told from to entries = record { numbers = numbers_between from to; entries = set.from_list entries }

-- the entry that is read under the key at that level, which may not be reached yet: of what is read now, what is late and what waits,
-- the latest
abbrev pub merged_reading : Merged → ℕ → List ℕ → Option Entry
merged_reading t level key =
    fold (best_of_two level key) (fold (best_of_two level key) (read_under t.entries key) (late_list t.entries)) (waiting_list t.waiting.lists)

-- It is kept well: its ranges are apart, what is read is up to the level and what is late or waits past it, what waits has no
-- number below its list's, and no number is past the greatest of a commit.
pub record IsMerged (t : Merged) : Type 0 where
  pub apart : AreApart t.taken.ends
  pub within : ReadsWithin (merged_level t) t.entries
  pub past : LatePast (merged_level t) t.entries
  pub waits : WaitPast (merged_level t) t.waiting.lists
  pub numbered : AreAllFrom t.waiting.lists
  pub bound : (n : ℕ) → Covers t.taken.ends n → n ≤ MAX_COMMIT

-- the level once the commits from+1 to to are taken too
abbrev pub level_with : Merged → ℕ → ℕ → ℕ
level_with t from to = level (set.union (merged_knowledge t).numbers (numbers_between from to))

-- the level once all that the other one has is taken too
abbrev pub level_joined : Merged → Merged → ℕ
level_joined t other = level (set.union (merged_knowledge t).numbers (merged_knowledge other).numbers)

-- There is room for the commits from+1 to to and their entries: at the level that is reached with them, room for their entries, and
-- places where they are read for the late entries and for those that wait up to that level.
pub record HasMergedRoom (t : Merged) (from : ℕ) (to : ℕ) (entries : List PieceEntry) : Type 0 where
  pub range : Spans t.taken.ends from from
  pub promoted : IsRoomyTo (level_with t from to) t.entries
  pub reached : HaveReached t.entries t.waiting.lists (level_with t from to)
  pub places : HasRoomUnder t.entries t.waiting.lists (level_with t from to) (wait_number from entries) entries

-- There is room for all that another one has: at the level that is reached with it, a place for each of its entries, room for those
-- that wait there, and places where they are read for the late entries and for those that wait up to that level.
pub record HaveMergedRooms (t : Merged) (other : Merged) : Type 0 where
  pub ranges : HaveRoom other.taken.ends t.taken.ends
  pub promoted : IsRoomyTo (level_joined t other) t.entries
  pub reached : HaveReached t.entries t.waiting.lists (level_joined t other)
  pub places : (e : Entry) → HasEntry other.entries e → HasPlaces t.entries (level_joined t other) e.number e.key
  pub waiting : (n : ℕ) → HasRoomUnder t.entries t.waiting.lists (level_joined t other) n (waiting_at other.waiting.lists n)
