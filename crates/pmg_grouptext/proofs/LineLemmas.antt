-- The first line of a text, and all its lines.
use Rattle.std.proofs.Common.{◌≡◌, ◌∙◌, refl, sym, ap, subst, ℕ, suc, ◌+◌, ◌<◌, ◌≤◌, Bool, true, false, cond, not, List, [], ◌∷◌, ◌++◌, length, take, drop, arith, eqb-true, length-append, append-nil, inl, inr, Some, None, nat_lt, ltb-true, ltb-false, take-append-drop, take_all, drop_of_length-le}
use Rattle.std.specs.List.{position, position_or_len}
use Rattle.std.proofs.lemmas.Option.{none-some, same_Some}
use Rattle.pmg_script.specs.Reading.{is_end, IsUnended, IsWhole, lines}
use Rattle.pmg_script.proofs.ReplayLemmas.{one_line, last_line, no_lines}
use Rattle.pmg_grouptext.specs.Groups.{IsCutFrom}

one_more : (x : ℕ) (xs : List ℕ) → is_end x ≡ false → IsWhole xs → IsWhole (x ∷ xs)
one_more x xs is whole = record { body = x ∷ whole.body; unended = rw is whole.unended; ends = ap (λ l. x ∷ l) whole.ends }

-- up to and including the first LF it is a whole line
pub whole_to : (text : List ℕ) → position_or_len is_end text < length text → IsWhole (take (position_or_len is_end text + 1) text)
whole_to [] less = absurd (omega (arith, less))
whole_to (x ∷ xs) less = go (is_end x) refl (whole_to xs) less
  where
    go : (b : Bool) → is_end x ≡ b → (position_or_len is_end xs < length xs → IsWhole (take (position_or_len is_end xs + 1) xs))
        → cond (not b) (1 + position_or_len is_end xs) 0 < suc (length xs) → IsWhole (take (cond (not b) (1 + position_or_len is_end xs) 0 + 1) (x ∷ xs))
    go true is rest less = record { body = []; unended = refl; ends = ap (λ y. y ∷ []) (eqb-true x 10 is) }
    go false is rest less =
        let whole = one_more x (take (position_or_len is_end xs + 1) xs) is (rest (omega (arith, less))) in
        let n = position_or_len is_end xs in
        let same : suc (n + 1) ≡ 1 + n + 1 = omega arith in
        subst (λ k. IsWhole (take k (x ∷ xs))) same whole

-- with no LF it is none
pub unended_all : (text : List ℕ) → length text ≤ position_or_len is_end text → IsUnended text
unended_all [] none = refl
unended_all (x ∷ xs) none = go (is_end x) refl (unended_all xs) none
  where
    go : (b : Bool) → is_end x ≡ b → (length xs ≤ position_or_len is_end xs → IsUnended xs) → suc (length xs) ≤ cond (not b) (1 + position_or_len is_end xs) 0 → IsUnended (x ∷ xs)
    go true is rest none = absurd (omega (arith, none))
    go false is rest none = rw is (rest (omega (arith, none)))

-- the first LF, where there is one, ends the first line
pub cut_at : (text : List ℕ) (at : ℕ) → Some at ≡ position is_end text → IsCutFrom text (take (at + 1) text) (drop (at + 1) text)
cut_at text at found = go (nat_lt (position_or_len is_end text) (length text)) refl found
  where
    go : (b : Bool) → nat_lt (position_or_len is_end text) (length text) ≡ b → Some at ≡ cond b (Some (position_or_len is_end text)) None
        → IsCutFrom text (take (at + 1) text) (drop (at + 1) text)
    go false is found = absurd (none-some at (sym found))
    go true is found = record {
      parts = sym (take-append-drop (at + 1) text);
      ends = inl (subst (λ n. IsWhole (take (n + 1) text)) (sym (same_Some at (position_or_len is_end text) found)) (whole_to text (ltb-true _ _ is)));
    }

-- with none it is all there is
pub cut_none : (text : List ℕ) → None ≡ position is_end text → IsUnended text
cut_none text found = go (nat_lt (position_or_len is_end text) (length text)) refl found
  where
    go : (b : Bool) → nat_lt (position_or_len is_end text) (length text) ≡ b → None ≡ cond b (Some (position_or_len is_end text)) None → IsUnended text
    go true is found = absurd (none-some (position_or_len is_end text) found)
    go false is found = unended_all text (ltb-false _ _ is)

pub cut_all : (text : List ℕ) (n : ℕ) → n ≡ length text → IsUnended text → IsCutFrom text (take n text) (drop n text)
cut_all text n is unended = record {
  parts = sym (take-append-drop n text);
  ends = inr (subst IsUnended (sym (take_all n text (omega (arith, is)))) unended, drop_of_length-le text (omega (arith, is)));
}

whole_some : (line : List ℕ) → IsWhole line → 0 < length line
whole_some line whole = omega (arith, ap length whole.ends, length-append whole.body (10 ∷ []))

-- what stands after the first line is shorter
pub cut_shorter : (text line rest : List ℕ) → 0 < length text → IsCutFrom text line rest → length rest < length text
cut_shorter text line rest some cut = elim cut.ends [
  | inl whole ↦ omega (arith, whole_some line whole, ap length cut.parts, length-append line rest)
  | inr last ↦ omega (arith, some, ap length last.1)
]

last_cut : (line : List ℕ) → 0 < length line → IsUnended line → lines line ≡ line ∷ []
last_cut [] some unended = absurd (omega (arith, some))
last_cut (b ∷ bs) some unended = last_line b bs unended

no_more : (line rest : List ℕ) → rest ≡ [] → lines line ≡ line ∷ [] → lines (line ++ rest) ≡ line ∷ lines rest
no_more line rest none is = subst (λ r. lines (line ++ r) ≡ line ∷ lines r) (sym none) (ap lines (append-nil line) ∙ is ∙ ap (λ l. line ∷ l) (sym no_lines))

-- the lines of a text are the first and those after it
pub lines_cut : (text line rest : List ℕ) → 0 < length text → IsCutFrom text line rest → lines text ≡ line ∷ lines rest
lines_cut text line rest some cut = elim cut.ends [
  | inl whole ↦ ap lines (cut.parts ∙ ap (λ l. l ++ rest) whole.ends) ∙ one_line whole.body rest whole.unended ∙ ap (λ l. l ∷ lines rest) (sym whole.ends)
  | inr last ↦ ap lines cut.parts ∙ no_more line rest last.1 (last_cut line (omega (arith, some, ap length cut.parts, length-append line rest, ap length last.1)) last.0)
]
