-- What a track knows of its process, as one piece told it or as several did.
use Rattle.std.specs.Prelude.{◌≡◌, ◌≤◌, ◌<◌, ℕ, List, map, Option, None, true}
use Rattle.std.specs.List.{fold, list_all}
use Rattle.pmg_value.specs.Lists.{is_chain}
use Rattle.pmg_commit.specs.Entries.{Entry, best_of_two}
use Rattle.pmg_commit.specs.Levels.{level}
use Rattle.pmg_commit.specs.Knowledge.{Knowledge}
use Rattle.pmg_commit.specs.Cores.{Core, core_of}
use Rattle.pmg_commit.specs.Pieces.{entry_of, is_numbered, is_key_rising}
use Rattle.pmg_commit.specs.declared.piece.TheConstants.{MAX_COMMIT}
use Rattle.pmg_lane.specs.Merged.{merged_knowledge, merged_reading, told, IsMerged, HasMergedRoom, HaveMergedRooms}
use Rattle.pmg_lane.specs.declared.single.Single.{Single}
use Rattle.pmg_lane.specs.declared.track.Track.{Track}
use Rattle.pmg_lane.specs.declared.track.Track.TheVariants as tracks
use Rattle.pmg_lane.specs.declared.track.Reads.{Reads}
use Rattle.pmg_lane.specs.declared.track.Reads.TheVariants as reads

-- what one piece told
abbrev pub single_knowledge : Single → Knowledge
single_knowledge s = told s.from s.to (map entry_of s.entries.items)

-- the entry of what one piece told that is read under the key at that level, which may not be reached yet
abbrev pub single_reading : Single → ℕ → List ℕ → Option Entry
single_reading s level key = fold (best_of_two level key) None (map entry_of s.entries.items)

-- what a track knows
abbrev pub known_by : Track → Knowledge
known_by (tracks.Single s) = single_knowledge s
known_by (tracks.Merged m) = merged_knowledge m

-- what a track knows, as a core
abbrev pub core_in : Track → Core
core_in t = core_of (known_by t)

-- the entry of a track that is read under the key at that level, which may not be reached yet
abbrev pub reading_of : Track → ℕ → List ℕ → Option Entry
reading_of (tracks.Single s) level key = single_reading s level key
reading_of (tracks.Merged m) level key = merged_reading m level key

-- the level of a track
abbrev pub level_of : Track → ℕ
level_of t = level (known_by t).numbers

-- What one piece told is kept well: there are commits, none is past the greatest, the keys rise, and each entry is of one of the commits.
pub record IsSingle (s : Single) : Type 0 where
  pub some : s.from < s.to
  pub bound : s.to ≤ MAX_COMMIT
  pub rising : is_chain is_key_rising (map entry_of s.entries.items) ≡ true
  pub numbered : list_all (is_numbered s.from s.to) (map entry_of s.entries.items) ≡ true

-- a track is kept well
abbrev pub IsTrack : Track → Type 0
IsTrack (tracks.Single s) = IsSingle s
IsTrack (tracks.Merged m) = IsMerged m

-- there is room for all that another track has
abbrev pub HaveRooms : Track → Track → Type 0
HaveRooms (tracks.Single s) other = ⊥
HaveRooms (tracks.Merged m) (tracks.Single s) = HasMergedRoom m s.from s.to s.entries.items
HaveRooms (tracks.Merged m) (tracks.Merged o) = HaveMergedRooms m o

-- it is what several pieces told
abbrev pub IsMany : Track → Type 0
IsMany (tracks.Single s) = ⊥
IsMany (tracks.Merged m) = Unit {0}

-- the keys of a track, with what is read under each: the entries of one piece, or the places of several
abbrev pub ShowsReads : Track → Reads → Type 0
ShowsReads (tracks.Single s) (reads.Few entries) = entries.now ≡ s.entries.items
ShowsReads (tracks.Single s) (reads.Many places) = ⊥
ShowsReads (tracks.Merged m) (reads.Few entries) = ⊥
ShowsReads (tracks.Merged m) (reads.Many places) = places.now ≡ m.entries.reads
