-- Places in a tree; an empty place is only room.
use Rattle.std.specs.Prelude.{Option, Some, None, IsSome}
use Rattle.std.specs.declared.cmp.Ordering.{Ordering}
use Rattle.std.specs.BTreeMap.{BTreeMap, get}

-- the content of a place: nothing if there is no place, or if it is empty
abbrev pub placed : {V : Type 0} → Option (Option V) → Option V
placed None = None
placed (Some there) = there

-- the content of the place under the key
abbrev pub there_at : {K V : Type 0} → (K → K → Ordering) → BTreeMap K (Option V) → K → Option V
there_at R tree key = placed (get R tree key)

-- there is a place for the key
abbrev pub HasPlace : {K V : Type 0} → (K → K → Ordering) → BTreeMap K (Option V) → K → Type 0
HasPlace R tree key = IsSome (get R tree key)
