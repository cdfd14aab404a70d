-- Rows of keys and values in memory, as a finite map.
use Rattle.std.specs.Prelude.{List, map, Option, Some, None, is_some, ◌&&◌, if◌then◌else◌}
use Rattle.std.specs.declared.cmp.Ordering.{Ordering}
use Rattle.std.specs.BTreeMap.{is_at}
use Rattle.std.specs.FinMap as finite
use Rattle.std.specs.List.Sorted.{IsStrictlySortedBy}
use Rattle.std.specs.Map.{keys_of}
use Rattle.std.specs.Option.{unwrap_or}

module _ {K V : Type 0} {R : K → K → Ordering} where
  -- the rows as a map, with f the meaning of a value
  abbrev pub rows_of : {X : Type 0} → (V → X) → List (K × V) → finite.FinMap R X
  rows_of f rows = finite.from_entries (map (λ e. (e.0, f e.1)) rows)

  -- the rows as a map, with their values as they are
  abbrev pub map_of : List (K × V) → finite.FinMap R V
  map_of rows = rows_of (λ v. v) rows

module _ {K X : Type 0} {R : K → K → Ordering} where
  -- the map with another value under the key, if it has one
  abbrev pub changed_at : finite.FinMap R X → K → X → finite.FinMap R X
  changed_at m key x = if finite.contains_key m key then finite.insert m key x else m

  -- the map with the earlier content under the key
  abbrev pub put_back : finite.FinMap R X → K → Option X → finite.FinMap R X
  put_back m key None = finite.remove m key
  put_back m key (Some x) = changed_at m key x

-- the content under q after the earlier content of the key is put back; `at` has the content under each key
abbrev pub back_at : {K V : Type 0} → (K → K → Ordering) → K → Option V → (K → Option V) → K → Option V
back_at R key None at q = if is_at (R key) q then None else at q
back_at R key (Some v) at q = if is_some (at key) && is_at (R key) q then Some v else at q

-- the content under q after the object under the key took the part in, or the first object if the key had none; `at` has the content under
-- each key
abbrev pub grown_at : {K V P : Type 0} → (K → K → Ordering) → V → (V → P → V) → K → P → (K → Option V) → K → Option V
grown_at R first grown key part at q = if is_at (R key) q then Some (grown (unwrap_or (at key) first) part) else at q

-- the keys of the rows rise
abbrev pub AreRising : {K V : Type 0} → (K → K → Ordering) → List (K × V) → Type 0
AreRising R rows = IsStrictlySortedBy R (keys_of rows)
