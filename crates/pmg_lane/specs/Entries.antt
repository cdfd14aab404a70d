-- The entries that a lane keeps: those that are read, by key, and those past the level, by number and key.
use Rattle.std.specs.Prelude.{◌≡◌, ◌<◌, ◌≤◌, ◌⊎◌, ℕ, ◌+◌, List, ◌++◌, Option, Some, None, IfSome, Bool, true}
use Rattle.std.specs.Option.{option_map, option_to_list}
use Rattle.std.specs.List.{flat_map}
use Rattle.std.specs.Ordering.{nat_cmp, ordering_then, is_lt}
use Rattle.std.specs.Cmp.Lexicographic.{slice_cmp}
use Rattle.std.specs.declared.cmp.Ordering.{Ordering}
use Rattle.std.specs.BTreeMap.{BTreeMap, keys, btree_map_len}
use Rattle.pmg_value.specs.Spelling.{spelling}
use Rattle.pmg_value.specs.declared.value.Value.{Value}
use Rattle.pmg_commit.specs.Entries.{Entry, is_later}
use Rattle.pmg_commit.specs.EntryOrder.{Superseded}
use Rattle.pmg_join.specs.Places.{there_at, HasPlace}
use Rattle.pmg_lane.specs.declared.entries.Entries.{Entries}
use Rattle.pmg_lane.specs.declared.entries.Stamp.{Stamp}

-- late entries are ordered by number, then by key
abbrev pub late_cmp : ℕ × List ℕ → ℕ × List ℕ → Ordering
late_cmp x y = ordering_then (nat_cmp x.0 y.0) (slice_cmp nat_cmp x.1 y.1)

-- the entry of a stamp that is read under the key
abbrev pub entry_under : List ℕ → Stamp → Entry
entry_under key s = record { key = key; number = s.number; bytes = spelling s.value }

-- the late entry of that number and key, with the value
abbrev pub late_entry : ℕ × List ℕ → Value → Entry
late_entry place value = record { key = place.1; number = place.0; bytes = spelling value }

-- the entry that is read under the key
abbrev pub read_under : Entries → List ℕ → Option Entry
read_under a key = option_map (entry_under key) (there_at (slice_cmp nat_cmp) a.reads key)

-- the late entry of that number and key
abbrev pub late_at : Entries → ℕ × List ℕ → Option Entry
late_at a place = option_map (late_entry place) (there_at late_cmp a.late place)

-- e is what is read under its key
abbrev pub IsReadIn : BTreeMap (List ℕ) (Option Stamp) → Entry → Type 0
IsReadIn reads e = option_map (entry_under e.key) (there_at (slice_cmp nat_cmp) reads e.key) ≡ Some e

-- e is the late entry of its number and key
abbrev pub IsLateIn : BTreeMap (ℕ × List ℕ) (Option Value) → Entry → Type 0
IsLateIn late e = option_map (late_entry (e.number, e.key)) (there_at late_cmp late (e.number, e.key)) ≡ Some e

-- e is one of the entries
abbrev pub HasEntry : Entries → Entry → Type 0
HasEntry a e = IsReadIn a.reads e ⊎ IsLateIn a.late e

-- how many places there are
abbrev pub place_count : Entries → ℕ
place_count a = btree_map_len a.reads + btree_map_len a.late

-- one has the entries of the other
abbrev pub HoldAlike : Entries → Entries → Type 0
HoldAlike a b = ((key : List ℕ) → read_under b key ≡ read_under a key) × ((place : ℕ × List ℕ) → late_at b place ≡ late_at a place)

-- there are places for what the other has places for
abbrev pub PlacesStay : Entries → Entries → Type 0
PlacesStay a b =
    ((key : List ℕ) → HasPlace (slice_cmp nat_cmp) a.reads key → HasPlace (slice_cmp nat_cmp) b.reads key)
    × ((place : ℕ × List ℕ) → HasPlace late_cmp a.late place → HasPlace late_cmp b.late place)

-- there is a place for an entry of that number and key: where it is read, or, past the level, a late one
abbrev pub HasPlaces : Entries → ℕ → ℕ → List ℕ → Type 0
HasPlaces a level number key =
    (number ≤ level → HasPlace (slice_cmp nat_cmp) a.reads key)
    × (level < number → HasPlace late_cmp a.late (number, key))

-- what is read has no number past the level
abbrev pub ReadsWithin : ℕ → Entries → Type 0
ReadsWithin level a = (key : List ℕ) → IfSome (read_under a key) (λ e. e.number ≤ level)

-- each late entry up to the level has a place where it will be read
abbrev pub IsRoomyTo : ℕ → Entries → Type 0
IsRoomyTo level a = (place : ℕ × List ℕ) → HasPlace late_cmp a.late place → place.0 ≤ level → HasPlace (slice_cmp nat_cmp) a.reads place.1

-- each late entry is past the level
abbrev pub LatePast : ℕ → Entries → Type 0
LatePast level a = (place : ℕ × List ℕ) → IfSome (late_at a place) (λ _. level < place.0)

-- e is one of the entries, or one of them supersedes it at the level
abbrev pub Accounts : ℕ → Entries → Entry → Type 0
Accounts level a e = HasEntry a e ⊎ ((f : Entry) × HasEntry a f × Superseded level e f)

-- The entries with more of them, of which some are left: none is invented, and what is missing is superseded at the
-- level, or left.
pub record Settles (level : ℕ) (a : Entries) (More : Entry → Type 0) (b : Entries) (Left : Entry → Type 0) : Type 0 where
  pub fewer : (e : Entry) → HasEntry b e → HasEntry a e ⊎ More e
  pub enough : (e : Entry) → HasEntry a e ⊎ More e → Accounts level b e ⊎ Left e

-- nothing is left
abbrev pub NoneLeft : Entry → Type 0
NoneLeft e = ⊥

-- the entry is later than the one that is there, if there is one
abbrev pub beats : Option Entry → Entry → Bool
beats None e = true
beats (Some there) e = is_later there e

-- the bytes are greater than those that are there, if there are some
abbrev pub exceeds : Option (List ℕ) → List ℕ → Bool
exceeds None bytes = true
exceeds (Some there) bytes = is_lt (slice_cmp nat_cmp there bytes)

-- the late entries of the one are those of the other or past the level
abbrev pub LateFrom : ℕ → Entries → Entries → Type 0
LateFrom level a b = (place : ℕ × List ℕ) → (late_at b place ≡ late_at a place) ⊎ (level < place.0)

-- the late entries in a list
abbrev pub late_list : Entries → List Entry
late_list a = flat_map (λ place. option_to_list (late_at a place)) (keys a.late)

-- all the entries in a list
abbrev pub entries_list : Entries → List Entry
entries_list a = flat_map (λ key. option_to_list (read_under a key)) (keys a.reads) ++ late_list a
