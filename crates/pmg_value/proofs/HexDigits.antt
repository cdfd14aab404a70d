-- The digits that the crate hex writes are those of a text.
use Rattle.std.proofs.Common.{◌≡◌, ℕ, zero, suc, ◌/◌, ◌%◌, ◌<◌, ◌==◌, Bool, true, ◌&&◌, inl, inr, List, [], ◌∷◌, ◌++◌, take, drop, get_or, slice_index, refl, sym, ap, ◌∙◌, arith}
use Rattle.std.specs.Char.{digit_char}
use Rattle.std.proofs.lemmas.Bool.{and_parts, cases_lt, eqb-true}
use Rattle.std.proofs.lemmas.Grind.{flat_map-append}
use Rattle.std.proofs.lemmas.List.{take-append-drop}
use Rattle.hex.specs.Hex.{encode_lower, encode_with, lower_digits}
use Rattle.pmg_value.specs.Hex.{hex_byte, hex_text}

abbrev is_same_digit : ℕ → Bool
is_same_digit d = slice_index lower_digits d == digit_char d

abbrev are_same_digits : ℕ → Bool
are_same_digits zero = true
are_same_digits (suc n) = is_same_digit n && are_same_digits n

same_below : (n d : ℕ) → are_same_digits n ≡ true → d < n → is_same_digit d ≡ true
same_below zero d h lt = absurd (omega arith)
same_below (suc n) d h lt =
    let parts = and_parts (is_same_digit n) (are_same_digits n) h in
    elim (cases_lt d n) [
      | inl below ↦ same_below n d parts.1 below
      | inr top ↦
          let e : d ≡ n = omega arith in
          rw e parts.0
    ]

digit_is : (d : ℕ) → d < 16 → slice_index lower_digits d ≡ digit_char d
digit_is d lt = eqb-true (slice_index lower_digits d) (digit_char d) (same_below 16 d refl lt)

-- the lower case text of some bytes
pub encoded_text : (bytes : List ℕ) → ((i : ℕ) → get_or bytes i 0 < 256) → encode_lower bytes ≡ hex_text bytes
unfolding encode_with
encoded_text [] fits = refl
encoded_text (b ∷ bytes) fits =
    let byte : b < 256 = fits 0 in
    rw (digit_is (b / 16) (omega arith), digit_is (b % 16) (omega arith), encoded_text bytes (λ i. fits (suc i))) refl

-- the text of bytes in two pieces
pub text_of_pieces : (bytes first others : List ℕ) (n : ℕ) → first ≡ take n bytes → others ≡ drop n bytes → hex_text bytes ≡ hex_text first ++ hex_text others
text_of_pieces bytes first others n is_first is_others =
    rw (is_first, is_others) (ap hex_text (sym (take-append-drop n bytes)) ∙ flat_map-append hex_byte (take n bytes) (drop n bytes))
