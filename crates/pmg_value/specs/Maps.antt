-- Notions on finite maps.
use Rattle.std.specs.Prelude.{List, [], ◌∷◌}
use Rattle.std.specs.Prelude.{Option, Some, None}
use Rattle.std.specs.declared.cmp.Ordering.{Ordering}
use Rattle.std.specs.FinMap as map

-- two values that may be missing, joined: if one is missing, the other
abbrev pub join_options : {A : Type 0} → (A → A → A) → Option A → Option A → Option A
join_options join None other = other
join_options join (Some a) None = Some a
join_options join (Some a) (Some b) = Some (join a b)

-- b joined to a value that may be missing
abbrev pub join_to : {A : Type 0} → (A → A → A) → Option A → A → A
join_to join None b = b
join_to join (Some a) b = join a b

module _ {K X : Type 0} {R : K → K → Ordering} (join : X → X → X) (m : map.FinMap R X) where
  -- m, with each of the entries joined to its value at that key
  abbrev pub with_entries : List (K × X) → map.FinMap R X
  with_entries [] = m
  with_entries (e ∷ es) = map.insert (with_entries es) e.0 (join_to join (map.get m e.0) e.1)

  -- two maps joined: at each key the values of both, joined
  unfoldable pub join_maps : map.FinMap R X → map.FinMap R X
  join_maps n = with_entries (map.entries n)
