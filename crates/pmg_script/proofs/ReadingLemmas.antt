-- Lemmas on a line that is read piece by piece, each of which an LF can end.
use Rattle.std.proofs.Common.{◌≡◌, ◌≢◌, ◌+◌, ◌-◌, ◌<◌, ◌⊎◌, inl, inr, ℕ, List, [], ◌∷◌, ◌++◌, All, Option, length, take, get_or, arith, refl, sym, ap, subst, ◌∙◌, take_all, take-append-drop, ne_eqb}
use Rattle.std.specs.Io.{StartsWith, StopsAt, appended_bytes}
use Rattle.std.specs.Io.KnownBytes.{Consumes}
use Rattle.std.proofs.KnownBytes.{Consumes-trans}
use Rattle.std.proofs.Transfers.{starts_with_of_eq, StopsAt-append, All-of_StopsAt}
use Rattle.std.proofs.lemmas.List.{take_more}
use Rattle.std.proofs.lemmas.List.Elements.{All-head, All-tail}
use Rattle.pmg_value.specs.declared.refusal.Refusal.TheVariants.{NoMemory}
use Rattle.pmg_store.specs.declared.failure.Failure.{Failure}
use Rattle.pmg_store.specs.declared.failure.Failure.TheVariants.{Refused, Read}
use Rattle.pmg_store.specs.declared.input.TheConstants.{INPUT_LIMIT}
use Rattle.pmg_script.specs.Reading.{IsUnended, IsWhole, IsPastLimit, NoLine}

pub unended_of : (xs : List ℕ) → All (λ x. x ≢ 10) xs → IsUnended xs
unended_of [] all = refl
unended_of (x ∷ xs) all = rw (ne_eqb x 10 (All-head (λ y. y ≢ 10) x xs all)) (unended_of xs (All-tail (λ y. y ≢ 10) x xs all))

joined : (line new : List ℕ) → StartsWith new line → new ≡ line ++ appended_bytes line new
joined line new starts = sym (take-append-drop (length line) new) ∙ ap (λ l. l ++ appended_bytes line new) starts

last_split : (xs : List ℕ) (d : ℕ) → 0 < length xs → xs ≡ take (length xs - 1) xs ++ get_or xs (length xs - 1) d ∷ []
last_split xs d some = sym (take_all (length xs - 1 + 1) xs (omega arith)) ∙ take_more xs (length xs - 1) d (omega arith)

pub nothing_more : (line new : List ℕ) → StartsWith new line → length new ≡ length line → new ≡ line
nothing_more line new starts none = sym (take_all (length line) new (omega (arith, none))) ∙ starts

-- what was read so far, and one piece more
pub read_on : (a b c : Option (List ℕ)) (line new : List ℕ) → StartsWith new line → Consumes a b line → Consumes b c (appended_bytes line new) → Consumes a c new
read_on a b c line new starts first second = subst (Consumes a c) (sym (joined line new starts)) (Consumes-trans a b c line (appended_bytes line new) first second)

-- nothing more was read
pub no_line_read : (start : ℕ) (a b c : Option (List ℕ)) (line new : List ℕ) (e : Failure) → (e ≡ Read) ⊎ (e ≡ Refused NoMemory) → new ≡ line → All (λ x. x ≢ 10) line
    → Consumes a b line → Consumes b c (appended_bytes line new) → NoLine start a c new e
no_line_read start a b c line new e (inl is) same all first second =
    rw is (subst IsUnended (sym same) (unended_of line all), read_on a b c line new (starts_with_of_eq new line same) first second)
no_line_read start a b c line new e (inr is) same all first second = rw is tt

-- a line that nothing ended, and one piece more
pub stops_on : (line new : List ℕ) → StartsWith new line → All (λ x. x ≢ 10) line → StopsAt (appended_bytes line new) 10 → StopsAt new 10
stops_on line new starts all stops = subst (λ l. StopsAt l 10) (sym (joined line new starts)) (StopsAt-append line (appended_bytes line new) 10 all stops)

-- the last byte ends nothing
pub goes_on : (line : List ℕ) (last : ℕ) → 0 < length line → last ≡ get_or line (length line - 1) last → last ≢ 10 → StopsAt line 10 → All (λ x. x ≢ 10) line
goes_on line last some is other stops = All-of_StopsAt line 10 (length line) last refl (omega (arith, some)) is other stops

pub is_whole : (line : List ℕ) (last : ℕ) → 0 < length line → last ≡ get_or line (length line - 1) last → last ≡ 10 → StopsAt line 10 → IsWhole line
is_whole line last some is lf stops = record {
  body = take (length line - 1) line;
  unended = unended_of (take (length line - 1) line) stops;
  ends = last_split line last some ∙ ap (λ x. take (length line - 1) line ++ x ∷ []) (sym is ∙ lf);
}

-- a byte past the limit
pub is_past_limit : (start : ℕ) (old new : Option (List ℕ)) (line cut : List ℕ) → 0 < length line → cut ≡ take (length line - 1) line → start + length cut ≡ INPUT_LIMIT
    → StopsAt line 10 → Consumes old new line → IsPastLimit start old new cut
is_past_limit start old new line cut some is limit stops read = record {
  limit = limit;
  unended = rw is (unended_of (take (length line - 1) line) stops);
  byte = get_or line (length line - 1) 0;
  read = rw is (subst (Consumes old new) (last_split line 0 some) read);
}
