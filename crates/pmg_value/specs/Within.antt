-- Bytes within bounds.
use Rattle.std.specs.Prelude.{ℕ, Bool, ◌&&◌, nat_le}

-- a byte from the least one to the greatest one
abbrev pub lies_within : ℕ → ℕ → ℕ → Bool
lies_within least most b = nat_le least b && nat_le b most
