-- The rules of knowledge, of its levels, reads and cores, and of the data of all processes.
use Rattle.std.specs.Prelude.{ℕ, ◌≤◌, ◌≡◌, ◌↔◌, nat_lt, nat_le, ◌&&◌, true, false, List, Some, None, if◌then◌else◌}
use Rattle.std.specs.FinSet as set
use Rattle.std.specs.Ordering.{nat_cmp, eq_by_cmp}
use Rattle.pmg_value.specs.Process.{proc_cmp}
use Rattle.pmg_value.specs.declared.process.Proc.{Proc}
use Rattle.pmg_commit.specs.Entries.{Entry, is_later, is_readable, is_superseded}
use Rattle.pmg_commit.specs.Levels.{level, IsReach}
use Rattle.pmg_commit.specs.Knowledge.{Contribution, Knowledge, nothing, union, numbers_between, knowledge_of, read, core}
use Rattle.pmg_commit.specs.Data.{Data, join_data, of_contribution, known}

-- the numbers of a contribution are those above from, up to to
abbrev pub NumbersBetween : Type 0
NumbersBetween = (from to n : ℕ) → set.contains (numbers_between from to) n ≡ (nat_lt from n && nat_le n to)

-- the level is how far the numbers go from 1 without a gap, and no other number is
abbrev pub LevelIsReach : Type 0
LevelIsReach = (numbers : set.FinSet nat_cmp) → IsReach (set.contains numbers) (level numbers) × ((n : ℕ) → IsReach (set.contains numbers) n → n ≡ level numbers)

-- more knowledge never has a lower level
abbrev pub LevelGrows : Type 0
LevelGrows = (k l : Knowledge) → level k.numbers ≤ level (union k l).numbers

-- a contribution that begins no later than the level raises the level to its end at least
abbrev pub LevelReaches : Type 0
LevelReaches = (k : Knowledge) (c : Contribution) → c.from ≤ level k.numbers → c.to ≤ level (union k (knowledge_of c)).numbers

-- a readable entry is read if no readable entry is later
abbrev pub ReadIsLatest : Type 0
ReadIsLatest =
    (k : Knowledge) (key : List ℕ) (e : Entry)
    → set.contains k.entries e ≡ true
    → is_readable (level k.numbers) key e ≡ true
    → ((f : Entry) → set.contains k.entries f ≡ true → is_readable (level k.numbers) key f ≡ true → is_later e f ≡ false)
    → read k key ≡ Some e.bytes

-- a read finds nothing exactly if no entry is readable
abbrev pub ReadIsNone : Type 0
ReadIsNone =
    (k : Knowledge) (key : List ℕ)
    → (read k key ≡ None) ↔ ((e : Entry) → set.contains k.entries e ≡ true → is_readable (level k.numbers) key e ≡ false)

-- a core has the level and the reads of its knowledge
abbrev pub CoreReadsAlike : Type 0
CoreReadsAlike = (k : Knowledge) → (level (core k).numbers ≡ level k.numbers) × ((key : List ℕ) → read (core k) key ≡ read k key)

-- the core of a union is the core of the union of the cores
abbrev pub CoreOfUnion : Type 0
CoreOfUnion = (k l : Knowledge) → core (union k l) ≡ core (union (core k) (core l))

-- a core is its own core
abbrev pub CoreOfCore : Type 0
CoreOfCore = (k : Knowledge) → core (core k) ≡ core k

-- a core has no entry that another one supersedes
abbrev pub CoreIsLeast : Type 0
CoreIsLeast =
    (k : Knowledge) (e f : Entry) → set.contains (core k).entries e ≡ true → set.contains (core k).entries f ≡ true → is_superseded (level k.numbers) e f ≡ false

-- equal cores read alike
abbrev pub AlikeNow : Type 0
AlikeNow = (k l : Knowledge) → core k ≡ core l → (level k.numbers ≡ level l.numbers) × ((key : List ℕ) → read k key ≡ read l key)

-- equal cores stay equal when both learn the same
abbrev pub AlikeAfter : Type 0
AlikeAfter = (k l more : Knowledge) → core k ≡ core l → core (union k more) ≡ core (union l more)

-- the knowledge of each process from two data together is the core of the union of both
abbrev pub KnownTogether : Type 0
KnownTogether = (d e : Data) (p : Proc) → known (join_data d e) p ≡ core (union (known d p) (known e p))

-- a contribution gives knowledge of its own process, and of no other
abbrev pub KnownOfOne : Type 0
KnownOfOne = (c : Contribution) (p : Proc) → known (of_contribution c) p ≡ (if eq_by_cmp proc_cmp p c.proc then core (knowledge_of c) else nothing)
