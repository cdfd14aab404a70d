-- Notions on operations.
use Rattle.std.specs.Prelude.{◌≡◌}

module _ {M : Type 0} (join : M → M → M) where
  -- three joined values do not depend on which neighbours are joined first
  abbrev pub IsAssociative : Type 0
  IsAssociative = (a b c : M) → join (join a b) c ≡ join a (join b c)

  -- two joined values do not depend on their order
  abbrev pub IsCommutative : Type 0
  IsCommutative = (a b : M) → join a b ≡ join b a

  -- a value joined with itself is that value
  abbrev pub IsIdempotent : Type 0
  IsIdempotent = (a : M) → join a a ≡ a
