-- Bytes in hexadecimal.
use Rattle.std.specs.Prelude.{ℕ, List, [], ◌∷◌, ◌/◌, ◌%◌}
use Rattle.std.specs.List.{flat_map}
use Rattle.std.specs.Char.{digit_char}

-- a byte in two lower hexadecimal digits
abbrev pub hex_byte : ℕ → List ℕ
hex_byte n = digit_char (n / 16) ∷ digit_char (n % 16) ∷ []

-- bytes in lower hexadecimal digits
abbrev pub hex_text : List ℕ → List ℕ
hex_text bytes = flat_map hex_byte bytes
