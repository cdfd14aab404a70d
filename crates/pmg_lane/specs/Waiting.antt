-- Entries that wait until their commits can be read, in lists as they came.
use Rattle.std.specs.Prelude.{◌≡◌, ◌<◌, ◌≤◌, ◌⊎◌, ℕ, List, [], map, length, Bool, true, false, not, ◌&&◌, ◌||◌, ◌==◌, nat_lt, nat_le, Option, Some, None, IsSome, if◌then◌else◌}
use Rattle.std.specs.List.{flat_map, list_all}
use Rattle.std.specs.Ordering.{nat_cmp}
use Rattle.std.specs.Cmp.Lexicographic.{pointwise}
use Rattle.std.specs.BTreeMap.{BTreeMap, get, keys}
use Rattle.std.specs.Global.{Vec}
use Rattle.pmg_value.specs.Lists.{In}
use Rattle.pmg_commit.specs.Entries.{Entry, is_same_entry}
use Rattle.pmg_commit.specs.EntryOrder.{Superseded}
use Rattle.pmg_commit.specs.Pieces.{entry_of}
use Rattle.pmg_commit.specs.declared.piece.PieceEntry.{PieceEntry}
use Rattle.pmg_lane.specs.Entries.{HasEntry, HasPlaces}
use Rattle.pmg_lane.specs.declared.entries.Entries.{Entries}

-- the entries of a list, if there is one
abbrev pub list_items : Option (Vec PieceEntry) → List PieceEntry
list_items None = []
list_items (Some list) = list.items

-- the entries that wait under the number
abbrev pub waiting_at : BTreeMap ℕ (Vec PieceEntry) → ℕ → List PieceEntry
waiting_at lists n = list_items (get nat_cmp lists n)

-- the entry waits
abbrev pub IsWaiting : BTreeMap ℕ (Vec PieceEntry) → Entry → Type 0
IsWaiting lists e = (n : ℕ) × In e (map entry_of (waiting_at lists n))

-- all that wait, one list after the other
abbrev pub waiting_list : BTreeMap ℕ (Vec PieceEntry) → List Entry
waiting_list lists = flat_map (λ n. map entry_of (waiting_at lists n)) (keys lists)

-- no entry is of a number below this one
abbrev pub AreFrom : ℕ → List PieceEntry → Type 0
AreFrom n es = (e : PieceEntry) → In e es → n ≤ e.number

-- no entry is of a number below the one that it waits under
abbrev pub AreAllFrom : BTreeMap ℕ (Vec PieceEntry) → Type 0
AreAllFrom lists = (n : ℕ) → AreFrom n (waiting_at lists n)

-- what waits does so under numbers past the level
abbrev pub WaitPast : ℕ → BTreeMap ℕ (Vec PieceEntry) → Type 0
WaitPast level lists = (n : ℕ) (e : PieceEntry) → In e (waiting_at lists n) → level < n

-- the number under which the entries of a piece may wait: that of the last commit before it, if no entry is of a lower one, and
-- else 0, under which nothing waits
abbrev pub wait_number : ℕ → List PieceEntry → ℕ
wait_number from es = if list_all (λ e. nat_le from e.number) es then from else 0

-- nothing waits there, or the same
abbrev pub is_free : List PieceEntry → List PieceEntry → Bool
is_free there es = length there == 0 || pointwise is_same_entry (map entry_of there) (map entry_of es)

-- the entries can wait under the number: there are some, it is past the level, and no others wait there
abbrev pub can_wait : BTreeMap ℕ (Vec PieceEntry) → ℕ → ℕ → List PieceEntry → Bool
can_wait lists level n es = not (length es == 0) && (nat_lt level n && is_free (waiting_at lists n) es)

-- there is a place for each of the entries
abbrev pub HaveEach : Entries → ℕ → List PieceEntry → Type 0
HaveEach a level es = (e : PieceEntry) → In e es → HasPlaces a level e.number e.key

-- there is room for the entries: a list to wait in where they can, and else a place for each
abbrev pub HasRoomUnder : Entries → BTreeMap ℕ (Vec PieceEntry) → ℕ → ℕ → List PieceEntry → Type 0
HasRoomUnder a lists level n es =
    (can_wait lists level n es ≡ true → IsSome (get nat_cmp lists n)) × (can_wait lists level n es ≡ false → HaveEach a level es)

-- there is a place for each entry that waits under a number up to the level
abbrev pub HaveReached : Entries → BTreeMap ℕ (Vec PieceEntry) → ℕ → Type 0
HaveReached a lists level = (n : ℕ) → n ≤ level → HaveEach a level (waiting_at lists n)

-- the entry is kept, or waits
abbrev pub IsStocked : Entries → BTreeMap ℕ (Vec PieceEntry) → Entry → Type 0
IsStocked a lists e = HasEntry a e ⊎ IsWaiting lists e

-- the entry is kept or waits, or one that is or does supersedes it at the level
abbrev pub AccountsFor : ℕ → Entries → BTreeMap ℕ (Vec PieceEntry) → Entry → Type 0
AccountsFor level a lists e = IsStocked a lists e ⊎ ((f : Entry) × IsStocked a lists f × Superseded level e f)

-- What is kept and waits with more of it, of which some is left: nothing is invented, and what is missing is superseded at the
-- level, or left.
pub record Stocks (level : ℕ) (a : Entries) (lists : BTreeMap ℕ (Vec PieceEntry)) (More : Entry → Type 0) (b : Entries) (others : BTreeMap ℕ (Vec PieceEntry)) (Left : Entry → Type 0) : Type 0 where
  pub fewer : (e : Entry) → IsStocked b others e → IsStocked a lists e ⊎ More e
  pub enough : (e : Entry) → IsStocked a lists e ⊎ More e → AccountsFor level b others e ⊎ Left e
