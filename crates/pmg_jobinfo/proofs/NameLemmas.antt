-- The names of nodes and namespaces are texts; names by reference.
use Rattle.std.proofs.Common.{◌≡◌, ℕ, ◌≤◌, ◌<◌, Bool, true, false, cond, ◌&&◌, ◌||◌, List, [], ◌∷◌, map, length, get_or, IsTrue, refl, sym, ap, ◌∙◌, arith, zero, suc, Bor}
use Rattle.std.specs.Prelude.{nat_lt, nat_le, nat_eq, Some, None}
use Rattle.std.specs.List.{list_all, list_any, position_or_len}
use Rattle.std.specs.Option.{is_none}
use Rattle.std.specs.Set.{unique_keys, distinct_count}
use Rattle.std.proofs.lemmas.Bool.{and_parts, ne_eqb, leb-true, le-leb, le-ltb}
use Rattle.std.proofs.lemmas.List.{length-map}
use Rattle.std.proofs.lemmas.Map.Made.{distinct_count-le}
use Rattle.pmg_value.specs.Blobs.{is_zero, is_text}
use Rattle.std.specs.Ordering.{nat_cmp, eq_by_cmp}
use Rattle.std.specs.Cmp.Lexicographic.{slice_cmp}
use Rattle.pmg_value.specs.Names.{is_graphic, is_nspace}
use Rattle.pmg_jobinfo.specs.Refusing.{are_distinct}

no_zero_first : (b : ℕ) → IsTrue (is_graphic b) → is_zero b ≡ false
no_zero_first b h = ne_eqb b 0 (λ e. let least = leb-true 33 b (and_parts (nat_le 33 b) (nat_le b 126) h).0 in omega (arith, least, e))

no_zero : (bs : List ℕ) → IsTrue (list_all is_graphic bs) → position_or_len is_zero bs ≡ length bs
no_zero [] h = refl
no_zero (b ∷ bs) h =
    let parts = and_parts (is_graphic b) (list_all is_graphic bs) h in
    let same = no_zero bs parts.1 in
    rw (no_zero_first b parts.0) (omega (arith, same))

none_at_end : (n k : ℕ) → n ≡ k → is_none (cond (nat_lt n k) (Some n) None) ≡ true
none_at_end n k e = rw (le-ltb n k (omega (arith, e))) refl

-- bytes that show as marks are a text, where they are few enough
pub marks_are_text : (bs : List ℕ) → IsTrue (list_all is_graphic bs) → length bs ≤ 1048571 → IsTrue (is_text bs)
marks_are_text bs marks few = rw (none_at_end (position_or_len is_zero bs) (length bs) (no_zero bs marks)) (le-leb (length bs) 1048571 few)

-- a name is a text
pub name_is_text : (name : List ℕ) → IsTrue (is_nspace name) → IsTrue (is_text name)
name_is_text name h =
    let parts = and_parts (nat_lt 0 (length name) && nat_le (length name) 255) (list_all is_graphic name) h in
    let short = leb-true (length name) 255 (and_parts (nat_lt 0 (length name)) (nat_le (length name) 255) parts.0).1 in
    marks_are_text name parts.1 (omega (arith, short))

module _ {A B : Type 0} (f : A → B) (e : B → B → Bool) where
  any_at : (p : B → Bool) (xs : List A) → list_any p (map f xs) ≡ list_any (λ x. p (f x)) xs
  any_at p [] = refl
  any_at p (x ∷ xs) = ap (λ b. p (f x) || b) (any_at p xs)

  unique_at : (xs : List A) → unique_keys e (map f xs) ≡ map f (unique_keys (λ x y. e (f x) (f y)) xs)
  unique_at [] = refl
  unique_at (x ∷ xs) =
      ap (λ b. cond b (unique_keys e (map f xs)) (f x ∷ unique_keys e (map f xs))) (any_at (e (f x)) xs)
      ∙ elim (list_any (λ y. e (f x) (f y)) xs) as (λ b. cond b (unique_keys e (map f xs)) (f x ∷ unique_keys e (map f xs)) ≡ map f (cond b (unique_keys (λ x y. e (f x) (f y)) xs) (x ∷ unique_keys (λ x y. e (f x) (f y)) xs))) [
        | true ↦ unique_at xs
        | false ↦ ap (λ ys. f x ∷ ys) (unique_at xs)
      ]

  -- as many different items as images, where images tell them apart
  pub count_of_images : (xs : List A) → distinct_count (λ x y. e (f x) (f y)) xs ≡ distinct_count e (map f xs)
  count_of_images xs = sym (ap length (unique_at xs) ∙ length-map (unique_keys (λ x y. e (f x) (f y)) xs) f)

-- one of the names, where each is a name
pub name_at : (names : List (Bor (List ℕ))) (i : ℕ) (d : Bor (List ℕ)) → i < length names → IsTrue (list_all is_nspace (map (λ n. n.now) names)) → IsTrue (is_nspace (get_or names i d).now)
name_at [] i d lt h = absurd (omega (arith, lt))
name_at (n ∷ ns) zero d lt h = (and_parts (is_nspace n.now) (list_all is_nspace (map (λ m. m.now) ns)) h).0
name_at (n ∷ ns) (suc i) d lt h = name_at ns i d (omega (arith, lt)) (and_parts (is_nspace n.now) (list_all is_nspace (map (λ m. m.now) ns)) h).1

-- ---- names one by one

abbrev same : List ℕ → List ℕ → Bool
same x y = eq_by_cmp (slice_cmp nat_cmp) x y

few_of_more : (n m : ℕ) → n ≤ m → nat_eq n (suc m) ≡ false
few_of_more n m le = ne_eqb n (suc m) (λ e. omega (arith, le, e))

one_more_each : (n m : ℕ) → nat_eq (suc n) (suc m) ≡ nat_eq n m
one_more_each n m = grind arith

-- names of which the first is among the others are not distinct
pub first_again : (x : List ℕ) (xs : List (List ℕ)) → list_any (same x) xs ≡ true → are_distinct (x ∷ xs) ≡ false
first_again x xs h =
    ap (λ (b : Bool). nat_eq (length (cond b (unique_keys same xs) (x ∷ unique_keys same xs))) (suc (length xs))) h
    ∙ few_of_more (length (unique_keys same xs)) (length xs) (distinct_count-le same xs)

-- and where it is not, they are as distinct as the others
pub first_apart : (x : List ℕ) (xs : List (List ℕ)) → list_any (same x) xs ≡ false → are_distinct (x ∷ xs) ≡ are_distinct xs
first_apart x xs h =
    ap (λ (b : Bool). nat_eq (length (cond b (unique_keys same xs) (x ∷ unique_keys same xs))) (suc (length xs))) h
    ∙ one_more_each (length (unique_keys same xs)) (length xs)
