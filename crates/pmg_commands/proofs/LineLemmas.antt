-- What a text spells, line by line.
use Rattle.std.proofs.Common.{arith, ◌-◌, ◌≡◌, ℕ, zero, suc, ◌++◌, ◌<◌, ◌≤◌, append_assoc, append-nil, get_or, subst, take, drop, ◌==◌, Bool, true, false, cond, ◌&&◌, not, ◌+◌, ◌*◌, ◌/◌, ◌%◌, List, [], ◌∷◌, length, map, Ok, refl, sym, ap, ◌∙◌, nat_lt, slice_index}
use Rattle.std.specs.Prelude.{MatchResult, Result, Err, is_ok}
use Rattle.std.proofs.lemmas.Bool.{and_parts, eq-eqb, eqb-true, ltb-true, true≢false}
use Rattle.std.proofs.lemmas.List.{length-drop, take-append-drop, take_all, take_more}
use Rattle.std.proofs.lemmas.List.Elements.{filter-append}
use Rattle.bstr.specs.Text.{line_len, lines_from, lines_of, no_cr, without_terminator}
use Rattle.hex.specs.Hex.{decode_of, decode_pairs, decode_sized}
use Rattle.hex.specs.declared.error.FromHexError.{FromHexError}
use Rattle.hex.specs.declared.error.FromHexError.TheVariants.{InvalidStringLength, OddLength}
use Rattle.hex.proofs.HexLemmas.{decode_of-even}
use Rattle.pmg_commands.specs.Text.{is_white, digits_of, decoded}
use Rattle.pmg_commands.proofs.TextLemmas.{Spells, digits_decoded, pairs_more, spelled}

-- ---- the digits of a line
-- room for two digits a byte is the room that they take
sized : (digits : List ℕ) (n : ℕ) → length digits ≡ 2 * n → decode_sized digits n ≡ decode_of digits
sized digits n twice =
    let same : (length digits / 2 == n) ≡ true = eq-eqb (length digits / 2) n (omega (arith, twice)) in
    λ i. cond (length digits % 2 == 1) (Err OddLength) (cond (same i) (decode_pairs 0 digits) (Err InvalidStringLength))

module _ (bytes : List ℕ) (done : Result Unit FromHexError) (ok : is_ok done ≡ true) where
  decoded_as : (due : Result (List ℕ) FromHexError) → MatchResult due (λ bs. (done ≡ Ok tt) × (bytes ≡ bs)) (λ e. done ≡ Err e) → due ≡ Ok bytes
  decoded_as (Ok bs) is = ap Ok (sym is.1)
  decoded_as (Err e) is = absurd (true≢false (sym ok ∙ ap is_ok is))

  pub line_decoded : (digits : List ℕ) (n : ℕ) → length digits ≡ 2 * n
      → MatchResult (decode_sized digits n) (λ bs. (done ≡ Ok tt) × (bytes ≡ bs)) (λ e. done ≡ Err e) → decode_of digits ≡ Ok bytes
  line_decoded digits n twice is = sym (sized digits n twice) ∙ decoded_as (decode_sized digits n) is

-- ---- the lines of a text
-- the digits of lines
abbrev digits_of_lines : List (List ℕ) → List ℕ
digits_of_lines [] = []
digits_of_lines (line ∷ lines) = digits_of line ++ digits_of_lines lines

-- a blank at the end
blank_last : (blank : ℕ) (line : List ℕ) → is_white blank ≡ true → (nat_lt 0 (length line) && slice_index line (length line - 1) == blank) ≡ true
    → digits_of (take (length line - 1) line) ≡ digits_of line
blank_last blank line white test =
    let parts = and_parts _ _ test in
    let some : 0 < length line = ltb-true 0 (length line) parts.0 in
    let front = take (length line - 1) line in
    let last : get_or line (length line - 1) 0 ≡ blank = eqb-true _ _ parts.1 in
    let split : line ≡ front ++ blank ∷ [] =
    sym (take_all (length line - 1 + 1) line (omega (arith, some))) ∙ take_more line (length line - 1) 0 (omega (arith, some)) ∙ ap (λ x. front ++ x ∷ []) last in
    sym (ap digits_of split ∙ filter-append (λ byte. not (is_white byte)) front (blank ∷ [])
    ∙ ap (λ b. digits_of front ++ cond (not b) (blank ∷ []) []) white ∙ append-nil (digits_of front))

stripped : (test : Bool) (short line : List ℕ) → (test ≡ true → digits_of short ≡ digits_of line) → digits_of (cond test short line) ≡ digits_of line
stripped true short line same = same refl
stripped false short line same = refl

-- what ends a line is blank
without_end : (line : List ℕ) → digits_of (without_terminator line) ≡ digits_of line
without_end line =
    let front = take (length line - 1) line in
    stripped (nat_lt 0 (length line) && slice_index line (length line - 1) == 10) (no_cr front) line
    (λ test. stripped (nat_lt 0 (length front) && slice_index front (length front - 1) == 13) (take (length front - 1) front) front (blank_last 13 front refl) ∙ blank_last 10 line refl test)

line_has_some : (byte : ℕ) (rest : List ℕ) → 1 ≤ line_len (byte ∷ rest)
unfolding line_len
line_has_some byte rest = go (byte == 10)
  where
    go : (ends : Bool) → 1 ≤ cond ends 1 (suc (line_len rest))
    go true = omega arith
    go false = omega arith

digits_from : (n : ℕ) (text : List ℕ) → length text ≤ n → digits_of_lines (map without_terminator (lines_from n text)) ≡ digits_of text
unfolding lines_from
digits_from zero [] within = refl
digits_from zero (byte ∷ rest) within = absurd (omega (arith, within))
digits_from (suc n) [] within = refl
digits_from (suc n) (byte ∷ rest) within =
    let k = line_len (byte ∷ rest) in
    let line = take k (byte ∷ rest) in
    let others = drop k (byte ∷ rest) in
    let fewer : length others ≤ n = omega (arith, within, line_has_some byte rest, length-drop k (byte ∷ rest)) in
    ap (λ ds. ds ++ digits_of_lines (map without_terminator (lines_from n others))) (without_end line) ∙ ap (λ ds. digits_of line ++ ds) (digits_from n others fewer)
    ∙ sym (filter-append (λ byte. not (is_white byte)) line others) ∙ ap digits_of (take-append-drop k (byte ∷ rest))

-- The bytes are those of the lines before these, which are left of the text: what these spell, after the bytes, is what the text spells.
abbrev pub Decoding : List ℕ → List (List ℕ) → List ℕ → Type 0
Decoding text lines bytes = (more : List ℕ) → ((i : ℕ) → decode_pairs i (digits_of_lines lines) ≡ Ok more) → Spells text (bytes ++ more)

pub decoding_start : (text : List ℕ) → Decoding text (map without_terminator (lines_of text)) []
decoding_start text more lines i = ap (decode_pairs i) (sym (digits_from (length text) text (omega arith))) ∙ lines i

pub decoding_next : (text line : List ℕ) (lines : List (List ℕ)) (bytes block : List ℕ) → Decoding text (line ∷ lines) bytes
    → decode_of line ≡ Ok block → length line % 2 ≡ 0 → Decoding text lines (bytes ++ block)
decoding_next text line lines bytes block so_far is even more rest =
    let pairs : decode_pairs 0 line ≡ Ok block = sym (decode_of-even line even) ∙ is in
    subst (Spells text) (sym (append_assoc bytes block more))
    (so_far (block ++ more) (λ i. ap (λ ds. decode_pairs i (ds ++ digits_of_lines lines)) (digits_decoded line block pairs)
    ∙ pairs_more 0 i line (digits_of_lines lines) block more pairs rest))

pub decoding_end : (text bytes : List ℕ) → Decoding text [] bytes → decoded text ≡ Ok bytes
unfolding decode_pairs
decoding_end text bytes all = spelled text bytes (subst (Spells text) (append-nil bytes) (all [] (λ i. refl)))
