-- What `hex` decodes is what the digits spell in pairs.
use Rattle.std.proofs.Common.{arith, ◌≡◌, inl, inr, ℕ, suc, ◌++◌, ◌≤◌, subst, ◌==◌, Bool, true, false, cond, ◌&&◌, not, ◌+◌, ◌*◌, ◌%◌, List, [], ◌∷◌, length, Option, Some, None, Result, Ok, Err, unwrap_or, refl, sym, ap, ◌∙◌}
use Rattle.std.specs.Prelude.{is_some, IsErr}
use Rattle.std.specs.List.{position, position_or_len, AllPass}
use Rattle.std.proofs.lemmas.List.Elements.{All-nil, All-cons}
use Rattle.std.proofs.lemmas.Bool.{le-ltb, lt-ltb, false≢true, false_from_ne_true, or_cases, eqb-true, cases_lt}
use Rattle.hex.specs.Hex.{decode_of, decode_pairs, digit_or_error, hex_digit_value, is_hex_digit, ◌>>=◌}
use Rattle.hex.specs.declared.error.FromHexError.{FromHexError}
use Rattle.hex.proofs.HexLemmas.{decode_of-even, decode_of-digits, decode_pairs-ok}
use Rattle.pmg_value.specs.declared.refusal.Cause.TheVariants as causes
use Rattle.pmg_wire.specs.Reading.{fault}
use Rattle.pmg_commands.specs.Text.{is_white, is_stray, digits_of, paired, unless_stray, decoded}

-- one pair, and then the others
first_pair : (high low : Option ℕ) (c d i : ℕ) (rest : Result (List ℕ) FromHexError) (others bytes : List ℕ) →
    ((digit_or_error c i high >>= λ h. digit_or_error d (i + 1) low >>= λ l. Ok (h * 16 + l)) >>= λ byte. rest >>= λ tail. Ok (byte ∷ tail)) ≡ Ok bytes →
    ((tail : List ℕ) → rest ≡ Ok tail → others ≡ tail) → (unwrap_or high 0 * 16 + unwrap_or low 0) ∷ others ≡ bytes
first_pair None low c d i rest others bytes is same = cc
first_pair (Some h) None c d i rest others bytes is same = cc
first_pair (Some h) (Some l) c d i (Err e) others bytes is same = cc
first_pair (Some h) (Some l) c d i (Ok tail) others bytes is same = let e = same tail refl in cc

-- where all pairs decode, they are the bytes that the digits spell
pub paired_from_pairs : (i : ℕ) (digits bytes : List ℕ) → decode_pairs i digits ≡ Ok bytes → paired digits ≡ bytes
unfolding decode_pairs paired
paired_from_pairs i [] bytes is = cc
paired_from_pairs i (digit ∷ []) bytes is = cc
paired_from_pairs i (high ∷ low ∷ rest) bytes is =
    first_pair (hex_digit_value high) (hex_digit_value low) high low i (decode_pairs (i + 2) rest) (paired rest) bytes is
    (λ tail is_tail. paired_from_pairs (i + 2) rest tail is_tail)

-- a digit without a partner
pub odd_text : (text : List ℕ) → length (digits_of text) % 2 ≡ 1 → decoded text ≡ Err (fault (length text) causes.Hex)
unfolding decoded
odd_text text odd = rw odd refl

-- a stray byte
pub stray_text : (text : List ℕ) (offset : ℕ) → length (digits_of text) % 2 ≡ 0 → position is_stray text ≡ Some offset →
    decoded text ≡ Err (fault offset causes.Hex)
unfolding decoded
stray_text text offset even found = rw even (ap (λ place. unless_stray place (digits_of text)) found)

-- each is a digit
abbrev AllHex : List ℕ → Type 0
AllHex [] = Unit {0}
AllHex (digit ∷ digits) = (is_hex_digit digit ≡ true) × AllHex digits

both_hex : (high low : Option ℕ) (c d i : ℕ) (rest : Result (List ℕ) FromHexError) (bytes : List ℕ) →
    ((digit_or_error c i high >>= λ h. digit_or_error d (i + 1) low >>= λ l. Ok (h * 16 + l)) >>= λ byte. rest >>= λ tail. Ok (byte ∷ tail)) ≡ Ok bytes →
    (is_some high ≡ true) × (is_some low ≡ true) × ((tail : List ℕ) × (rest ≡ Ok tail))
both_hex None low c d i rest bytes is = cc
both_hex (Some h) None c d i rest bytes is = cc
both_hex (Some h) (Some l) c d i (Err e) bytes is = cc
both_hex (Some h) (Some l) c d i (Ok tail) bytes is = (refl, refl, (tail, refl))

-- what decodes are digits
hex_from_pairs : (i : ℕ) (digits bytes : List ℕ) → decode_pairs i digits ≡ Ok bytes → AllHex digits
unfolding decode_pairs
hex_from_pairs i [] bytes is = tt
hex_from_pairs i (digit ∷ []) bytes is = cc
hex_from_pairs i (high ∷ low ∷ rest) bytes is =
    let both = both_hex (hex_digit_value high) (hex_digit_value low) high low i (decode_pairs (i + 2) rest) bytes is in
    (both.0, (both.1, hex_from_pairs (i + 2) rest both.2.0 both.2.1))

-- and then there is no stray byte
none_stray : (text : List ℕ) → AllHex (digits_of text) → position_or_len is_stray text ≡ length text
none_stray [] all = refl
none_stray (x ∷ xs) all = go (λ rest. none_stray xs rest) (is_white x) refl all
  where
    one_more : position_or_len is_stray xs ≡ length xs → 1 + position_or_len is_stray xs ≡ suc (length xs)
    one_more e = ap (λ n. 1 + n) e ∙ omega arith

    go : (AllHex (digits_of xs) → position_or_len is_stray xs ≡ length xs) → (b : Bool) → is_white x ≡ b → AllHex (cond (not b) (x ∷ digits_of xs) (digits_of xs))
        → cond (not (not b && not (is_hex_digit x))) (1 + position_or_len is_stray xs) 0 ≡ suc (length xs)
    go rest true is all = one_more (rest all)
    go rest false is all = ap (λ h. cond (not (not h)) (1 + position_or_len is_stray xs) 0) all.0 ∙ one_more (rest all.1)

no_stray : (text : List ℕ) → AllHex (digits_of text) → position is_stray text ≡ None
no_stray text all = rw (none_stray text all, le-ltb (length text) (length text) (omega arith)) refl

-- without a stray byte all that is not blank is a digit
all_hex : (text : List ℕ) → length text ≤ position_or_len is_stray text → AllHex (digits_of text)
all_hex [] all = tt
all_hex (x ∷ xs) all = go (λ rest. all_hex xs rest) (is_white x) refl (is_hex_digit x) refl all
  where
    one_less : suc (length xs) ≤ 1 + position_or_len is_stray xs → length xs ≤ position_or_len is_stray xs
    one_less h = omega (arith, h)

    go : (length xs ≤ position_or_len is_stray xs → AllHex (digits_of xs)) → (b : Bool) → is_white x ≡ b → (h : Bool) → is_hex_digit x ≡ h
        → suc (length xs) ≤ cond (not (not b && not h)) (1 + position_or_len is_stray xs) 0 → AllHex (cond (not b) (x ∷ digits_of xs) (digits_of xs))
    go rest true blank h digit all = rest (one_less all)
    go rest false blank true digit all = (digit, rest (one_less all))
    go rest false blank false digit all = absurd (omega (arith, all))

all_pass : (digits : List ℕ) → AllHex digits → AllPass is_hex_digit digits
all_pass [] all = All-nil (λ x. is_hex_digit x ≡ true)
all_pass (x ∷ xs) all = All-cons (λ x. is_hex_digit x ≡ true) x xs all.0 (all_pass xs all.1)

none_found : (text : List ℕ) → position is_stray text ≡ None → length text ≤ position_or_len is_stray text
none_found text none = elim (cases_lt (position_or_len is_stray text) (length text)) [
  | inl less ↦
      let found = ap (λ b. cond b (Some (position_or_len is_stray text)) None) (lt-ltb (position_or_len is_stray text) (length text) less) in
      absurd (let bad = sym found ∙ none in cc)
  | inr past ↦ past
]

-- an even number of digits without a stray byte is decoded
pub even_decodes : (text : List ℕ) → length (digits_of text) % 2 ≡ 0 → position is_stray text ≡ None → IsErr (decode_of (digits_of text)) → ⊥
even_decodes text even none err =
    let decodes = decode_of-digits (digits_of text) even (all_pass (digits_of text) (all_hex text (none_found text none))) in
    false≢true (subst IsErr decodes.1 err)

-- pairs of digits
pub clean_text : (text bytes : List ℕ) → length (digits_of text) % 2 ≡ 0 → decode_of (digits_of text) ≡ Ok bytes →
    decoded text ≡ Ok bytes
unfolding decoded
clean_text text bytes even is =
    let decodes : decode_pairs 0 (digits_of text) ≡ Ok bytes = sym (decode_of-even (digits_of text) even) ∙ is in
    let pairs : paired (digits_of text) ≡ bytes = paired_from_pairs 0 (digits_of text) bytes decodes in
    let found = no_stray text (hex_from_pairs 0 (digits_of text) bytes decodes) in
    rw even (ap (λ place. unless_stray place (digits_of text)) found ∙ ap Ok pairs)

-- ---- digits alone
not_blank : (x : ℕ) → is_hex_digit x ≡ true → is_white x ≡ false
not_blank x h = false_from_ne_true (is_white x) (λ b. elim (or_cases _ _ b) [
  | inr e ↦ none 10 e refl
  | inl b ↦ elim (or_cases _ _ b) [
    | inr e ↦ none 13 e refl
    | inl b ↦ elim (or_cases _ _ b) [
      | inr e ↦ none 9 e refl
      | inl e ↦ none 32 e refl
    ]
  ]
])
  where
    none : (blank : ℕ) → (x == blank) ≡ true → is_hex_digit blank ≡ false → ⊥
    none blank e other = false≢true (sym other ∙ ap is_hex_digit (sym (eqb-true x blank e)) ∙ h)

-- digits alone are their own digits
digits_alone : (digits : List ℕ) → AllHex digits → digits_of digits ≡ digits
digits_alone [] all = refl
digits_alone (x ∷ xs) all = ap (λ b. cond (not b) (x ∷ digits_of xs) (digits_of xs)) (not_blank x all.0) ∙ ap (λ ds. x ∷ ds) (digits_alone xs all.1)

pub digits_decoded : (digits bytes : List ℕ) → decode_pairs 0 digits ≡ Ok bytes → digits_of digits ≡ digits
digits_decoded digits bytes is = digits_alone digits (hex_from_pairs 0 digits bytes is)

ok_is : (a b : List ℕ) → ◌≡◌ {A = Result (List ℕ) FromHexError} (Ok a) (Ok b) → a ≡ b
ok_is a b h = ap (λ r. or_this r) h
  where
    or_this : Result (List ℕ) FromHexError → List ℕ
    or_this (Ok x) = x
    or_this (Err e) = a

pair_more : (high low : Option ℕ) (c d i j : ℕ) (rest others : Result (List ℕ) FromHexError) (bytes more : List ℕ) →
    ((digit_or_error c i high >>= λ h. digit_or_error d (i + 1) low >>= λ l. Ok (h * 16 + l)) >>= λ byte. rest >>= λ tail. Ok (byte ∷ tail)) ≡ Ok bytes →
    ((tail : List ℕ) → rest ≡ Ok tail → others ≡ Ok (tail ++ more)) →
    ((digit_or_error c j high >>= λ h. digit_or_error d (j + 1) low >>= λ l. Ok (h * 16 + l)) >>= λ byte. others >>= λ tail. Ok (byte ∷ tail)) ≡ Ok (bytes ++ more)
pair_more None low c d i j rest others bytes more is next = cc
pair_more (Some h) None c d i j rest others bytes more is next = cc
pair_more (Some h) (Some l) c d i j (Err e) others bytes more is next = cc
pair_more (Some h) (Some l) c d i j (Ok tail) others bytes more is next =
    ap (λ r. r >>= λ t. Ok ((h * 16 + l) ∷ t)) (next tail refl) ∙ ap (λ bs. Ok (bs ++ more)) (ok_is ((h * 16 + l) ∷ tail) bytes is)

-- pairs after pairs
pub pairs_more : (i j : ℕ) (run digits bytes more : List ℕ) → decode_pairs i run ≡ Ok bytes → ((k : ℕ) → decode_pairs k digits ≡ Ok more)
    → decode_pairs j (run ++ digits) ≡ Ok (bytes ++ more)
unfolding decode_pairs
pairs_more i j [] digits bytes more is rest = rest j ∙ ap (λ bs. Ok (bs ++ more)) (ok_is [] bytes is)
pairs_more i j (digit ∷ []) digits bytes more is rest = cc
pairs_more i j (high ∷ low ∷ run) digits bytes more is rest =
    pair_more (hex_digit_value high) (hex_digit_value low) high low i j (decode_pairs (i + 2) run) (decode_pairs (j + 2) (run ++ digits)) bytes more is
    (λ tail is_tail. pairs_more (i + 2) (j + 2) run digits tail more is_tail rest)

-- the digits of the text come in pairs, which `hex` decodes to the bytes
abbrev pub Spells : List ℕ → List ℕ → Type 0
Spells text bytes = (i : ℕ) → decode_pairs i (digits_of text) ≡ Ok bytes

pub spelled : (text bytes : List ℕ) → Spells text bytes → decoded text ≡ Ok bytes
spelled text bytes spells =
    let twice = (decode_pairs-ok 0 (digits_of text) bytes (spells 0)).1 in
    let even : length (digits_of text) % 2 ≡ 0 = omega (arith, twice) in
    clean_text text bytes even (decode_of-even (digits_of text) even ∙ spells 0)
