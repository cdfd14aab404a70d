-- What reading a body took.
use Rattle.std.proofs.Common.{ℕ, List}
use Rattle.pmg_wire.specs.Reading.{Place, Takes}

-- it took a text, and what it read is what a frame may carry
pub record TakesBody (at : Place) (text : List ℕ) (Is : Type 0) (after : Place) : Type 0 where
  pub takes : Takes at text after
  pub is : Is
