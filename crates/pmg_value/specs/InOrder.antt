-- The items of a finite set as a list.
use Rattle.std.specs.Prelude.{List, map}
use Rattle.std.specs.FinMap as finite
use Rattle.std.specs.FinSet as set
use Rattle.std.specs.declared.cmp.Ordering.{Ordering}

-- the items, as the entries of a map that has nothing at each key
abbrev pub as_entries : {K : Type 0} → List K → List (K × Unit {0})
as_entries ks = map (λ k. (k, tt)) ks

-- the items of a set in their order, each once: the keys of the map that has an entry for each of them
abbrev pub in_order : {K : Type 0} {R : K → K → Ordering} → set.FinSet R → List K
in_order {R = R} s = finite.keys (finite.from_entries {R = R} (as_entries (set.items s)))
