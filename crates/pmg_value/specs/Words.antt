-- The front of a text, which tells most texts apart.
use Rattle.std.specs.Prelude.{ℕ, zero, suc, ◌+◌, ◌*◌, List, [], ◌∷◌, drop}

-- the number so far, with n more bytes at its end: bytes at the front of the text, and zeros past its end
abbrev pub front_from : ℕ → ℕ → List ℕ → ℕ
front_from zero so_far bytes = so_far
front_from (suc n) so_far [] = front_from n (so_far * 256) []
front_from (suc n) so_far (b ∷ bs) = front_from n (so_far * 256 + b) bs

-- the first eight bytes as one number; the first byte counts most
abbrev pub first_eight : List ℕ → ℕ
first_eight bytes = front_from 8 0 bytes

-- the eight bytes after them as one number
abbrev pub second_eight : List ℕ → ℕ
second_eight bytes = first_eight (drop 8 bytes)
