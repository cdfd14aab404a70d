-- Hexadecimal text.
use Rattle.std.specs.Prelude.{ℕ, ◌+◌, ◌*◌, ◌%◌, ◌==◌, Bool, ◌&&◌, ◌||◌, not, List, [], ◌∷◌, length, Option, Some, None, Ok, Err, if◌then◌else◌, unwrap_or}
use Rattle.std.specs.List.{filter, position}
use Rattle.std.specs.declared.result.Result.{Result}
use Rattle.hex.specs.Hex.{hex_digit_value, is_hex_digit}
use Rattle.pmg_value.specs.declared.refusal.Cause.TheVariants as causes
use Rattle.pmg_value.specs.declared.refusal.Fault.{Fault}
use Rattle.pmg_wire.specs.Reading.{fault}

-- a blank, a tab, CR or LF
abbrev pub is_white : ℕ → Bool
is_white byte = byte == 32 || byte == 9 || byte == 13 || byte == 10

-- a byte that is not allowed in hexadecimal text
abbrev pub is_stray : ℕ → Bool
is_stray byte = not (is_white byte) && not (is_hex_digit byte)

-- the digits of a text without a stray byte
abbrev pub digits_of : List ℕ → List ℕ
digits_of text = filter (λ byte. not (is_white byte)) text

-- the value of a digit, in either case
abbrev pub digit_value : ℕ → ℕ
digit_value digit = unwrap_or (hex_digit_value digit) 0

-- each two digits as a byte, the high four bits first
unfoldable pub paired : List ℕ → List ℕ
paired [] = []
paired (digit ∷ []) = []
paired (high ∷ low ∷ rest) = (digit_value high * 16 + digit_value low) ∷ paired rest

-- the spelled bytes, unless there is a stray byte
abbrev pub unless_stray : Option ℕ → List ℕ → Result (List ℕ) Fault
unless_stray None digits = Ok (paired digits)
unless_stray (Some offset) digits = Err (fault offset causes.Hex)

-- the bytes that a text spells; else a fault: at its end if a digit has no partner, or at the first stray byte
unfoldable pub decoded : List ℕ → Result (List ℕ) Fault
decoded text =
    if length (digits_of text) % 2 == 1 then Err (fault (length text) causes.Hex)
    else unless_stray (position is_stray text) (digits_of text)
