-- Counted lists.
use Rattle.std.specs.Prelude.{ℕ, zero, suc, List, [], ◌∷◌, Option, Some, Ok}
use Rattle.pmg_wire.specs.Reading.{Place, Read, ◌>>=◌}

-- So many elements, one after another. A reader of elements gets the element before, if there is one.
unfoldable pub many : {X : Type 0} → (Option X → Place → Read X) → ℕ → Option X → Place → Read (List X)
many read zero before at = Ok ([], at)
many read (suc n) before at = do
  first ← read before at
  others ← many read n (Some first.0) first.1
  Ok (first.0 ∷ others.0, others.1)

-- Each element follows the one before it.
abbrev pub Chain : {X : Type 0} → (Option X → X → Type 0) → Option X → List X → Type 0
Chain Follows before [] = Unit {0}
Chain Follows before (x ∷ xs) = Follows before x × Chain Follows (Some x) xs
