-- Tables in memory.
use Rattle.std.specs.Prelude.{◌≡◌, ℕ, ◌+◌, List, length, Option, Some, None, Bool, ◌&&◌, nat_eq, map}
use Rattle.std.specs.FinMap as finite
use Rattle.std.specs.Option.{option_map}
use Rattle.std.specs.Ordering.{nat_cmp, is_eq}
use Rattle.std.specs.Cmp.Lexicographic.{slice_cmp, pointwise}
use Rattle.pmg_value.specs.declared.value.Value.{Value}
use Rattle.pmg_value.specs.Rows.{AreRising, rows_of, put_back}
use Rattle.pmg_value.specs.Spelling.{spelling}
use Rattle.pmg_scope.specs.declared.table.Before.{Before}
use Rattle.pmg_scope.specs.declared.table.Before.TheVariants as before
use Rattle.pmg_scope.specs.declared.tables.Tables.{Tables}
use Rattle.pmg_scope.specs.declared.sizes.Sizes.{Sizes}
use Rattle.pmg_scope.specs.Cached.{Table, Cached, table_size}

-- contents under keys
abbrev pub KeyMap : Type 0 → Type 0
KeyMap X = finite.FinMap (slice_cmp nat_cmp) X

-- rows of keys and values as a table
abbrev pub table_of : List (List ℕ × Value) → Table
table_of rows = rows_of spelling rows

-- a key, with its value's canonical bytes
abbrev pub canonical_row : List ℕ × Value → List ℕ × List ℕ
canonical_row row = (row.0, spelling row.1)

-- the keys, with their values' canonical bytes
abbrev pub canonical_rows : List (List ℕ × Value) → List (List ℕ × List ℕ)
canonical_rows rows = map canonical_row rows

-- the rows have one key and one value
abbrev pub is_same_row : List ℕ × List ℕ → List ℕ × List ℕ → Bool
is_same_row e f = pointwise nat_eq e.0 f.0 && is_eq (slice_cmp nat_cmp e.1 f.1)

-- the keys rise
abbrev pub IsRising : {V : Type 0} → List (List ℕ × V) → Type 0
IsRising = AreRising (slice_cmp nat_cmp)

-- the table with its earlier content, before a put of the key
abbrev pub restored : Table → List ℕ → Before → Table
restored m key before.Unseen = m
restored m key (before.Seen found) = put_back m key (option_map spelling found)

-- the size of a key with its content, which counts for as many bytes as h says: ten bytes more
abbrev pub size_by : {X : Type 0} → (X → ℕ) → List ℕ × X → ℕ
size_by h e = 10 + length e.0 + h e.1

-- the size of the content under the key, 0 without content
abbrev pub counted_by : {X : Type 0} → (X → ℕ) → List ℕ → Option X → ℕ
counted_by h key None = 0
counted_by h key (Some x) = size_by h (key, x)

-- the size of the value under the key, 0 without one
abbrev pub counted_at : Table → List ℕ → ℕ
counted_at m key = counted_by length key (finite.get m key)

-- the tables of the three reaches as the content of a cache
abbrev pub cached_of : Tables → Cached
cached_of t = record { own = t.own; near = t.near; far = t.far }

-- these are the sizes of the tables
abbrev pub AreSizes : Sizes → Cached → Type 0
AreSizes s c = (s.own ≡ table_size c.own) × (s.near ≡ table_size c.near) × (s.far ≡ table_size c.far)
