-- The consequences of a join's laws for a join of many.
use Rattle.std.specs.Prelude.{List, ◌++◌, ◌≡◌}
use Rattle.pmg_value.specs.Lists.{In, SameItems}
use Rattle.pmg_join.specs.Joins.{join_all}

module _ {M : Type 0} (join : M → M → M) where
  -- in any order, and with any repeats
  abbrev pub IsFreeInOrder : Type 0
  IsFreeInOrder = (first : M) (xs ys : List M) → SameItems xs ys → join_all join first xs ≡ join_all join first ys

  -- one by one, or as two that were joined first
  abbrev pub IsFreeInGrouping : Type 0
  IsFreeInGrouping = (first second : M) (xs ys : List M) → join (join_all join first xs) (join_all join second ys) ≡ join_all join (join first second) (xs ++ ys)

  -- a value that was joined before changes nothing
  abbrev pub IsFreeInRepeats : Type 0
  IsFreeInRepeats = (first again : M) (xs : List M) → In again xs → join (join_all join first xs) again ≡ join_all join first xs
