-- The ranks of a namespace in decimal are a text.
use Rattle.std.proofs.Common.{◌≡◌, ℕ, zero, suc, ◌+◌, ◌*◌, ◌<◌, ◌≤◌, ◌%◌, ◌^◌, Bool, true, false, cond, ◌&&◌, List, [], ◌∷◌, ◌++◌, length, codes, decimal, IsTrue, refl, ap, ◌∙◌, arith, length-append}
use Rattle.std.specs.Prelude.{nat_le}
use Rattle.std.specs.List.{filter, flat_map, join_by, list_all, range_with_len}
use Rattle.std.proofs.lemmas.Bool.{le-leb}
use Rattle.std.proofs.lemmas.List.Folds.{list_all-append}
use Rattle.std.proofs.lemmas.Fmt.{decimal_by_steps, length-decimal-le}
use Rattle.pmg_value.specs.Blobs.{is_text}
use Rattle.pmg_value.specs.Names.{is_graphic}
use Rattle.pmg_jobinfo.specs.Reserved.{peers_text}
use Rattle.pmg_jobinfo.proofs.NameLemmas.{marks_are_text}

-- bytes that show as marks, at most so many
record AreMarks (most : ℕ) (bs : List ℕ) : Type 0 where
  marks : list_all is_graphic bs ≡ true
  few : length bs ≤ most

both : (a b : Bool) → a ≡ true → b ≡ true → (a && b) ≡ true
both a b p q = ap (λ x. x && b) p ∙ q

all_append : (xs ys : List ℕ) → list_all is_graphic xs ≡ true → list_all is_graphic ys ≡ true → list_all is_graphic (xs ++ ys) ≡ true
all_append xs ys p q = list_all-append is_graphic xs ys ∙ both (list_all is_graphic xs) (list_all is_graphic ys) p q

appended : (m n : ℕ) (xs ys : List ℕ) → AreMarks m xs → AreMarks n ys → AreMarks (m + n) (xs ++ ys)
appended m n xs ys a b = record { marks = all_append xs ys a.marks b.marks; few = omega (arith, length-append xs ys, a.few, b.few) }

digit_marks : (d : ℕ) → d < 10 → is_graphic (48 + d) ≡ true
digit_marks d small = both (nat_le 33 (48 + d)) (nat_le (48 + d) 126) (le-leb 33 (48 + d) (omega arith)) (le-leb (48 + d) 126 (omega arith))

decimal_marks : (n : ℕ) → n < 2 ^ 64 → list_all is_graphic (decimal n) ≡ true
decimal_marks = decimal_by_steps (λ n ds. list_all is_graphic ds ≡ true)
    (λ n small. both (is_graphic (48 + n)) true (digit_marks n small) refl)
    (λ n ds big h. all_append ds ((48 + n % 10) ∷ []) h (both (is_graphic (48 + n % 10)) true (digit_marks (n % 10) (omega arith)) refl))

rank_marks : (n : ℕ) → n < 4096 → AreMarks 4 (decimal n)
rank_marks n small = record {
  marks = decimal_marks n (omega arith);
  few = length-decimal-le 4 n (omega arith) (omega arith) (omega arith);
}

next_marks : (n : ℕ) → n < 4096 → AreMarks 5 (codes "," ++ decimal n)
next_marks n small = appended 1 4 (codes ",") (decimal n) (record { marks = refl; few = omega arith }) (rank_marks n small)

module _ (p : ℕ → Bool) where
  -- commas and ranks, of the n ranks from a on
  others_marks : (a n : ℕ) → a + n ≤ 4096 → AreMarks (5 * n) (flat_map (λ r. codes "," ++ decimal r) (filter p (range_with_len a n)))
  others_marks a zero h = record { marks = refl; few = omega arith }
  others_marks a (suc n) h =
      let rest = others_marks (a + 1) n (omega (arith, h)) in
      elim (p a) as (λ b. AreMarks (5 * suc n) (flat_map (λ r. codes "," ++ decimal r) (cond b (a ∷ filter p (range_with_len (a + 1) n)) (filter p (range_with_len (a + 1) n))))) [
        | true ↦ more (appended 5 (5 * n) _ _ (next_marks a (omega (arith, h))) rest)
        | false ↦ record { marks = rest.marks; few = omega (arith, rest.few) }
      ]
    where
      more : {bs : List ℕ} → AreMarks (5 + 5 * n) bs → AreMarks (5 * suc n) bs
      more m = record { marks = m.marks; few = omega (arith, m.few) }

  ranks_marks : (a n : ℕ) → a + n ≤ 4096 → AreMarks (5 * n) (join_by decimal (codes ",") (filter p (range_with_len a n)))
  ranks_marks a zero h = record { marks = refl; few = omega arith }
  ranks_marks a (suc n) h =
      let rest = others_marks (a + 1) n (omega (arith, h)) in
      let later = ranks_marks (a + 1) n (omega (arith, h)) in
      elim (p a) as (λ b. AreMarks (5 * suc n) (join_by decimal (codes ",") (cond b (a ∷ filter p (range_with_len (a + 1) n)) (filter p (range_with_len (a + 1) n))))) [
        | true ↦ more (appended 4 (5 * n) _ _ (rank_marks a (omega (arith, h))) rest)
        | false ↦ record { marks = later.marks; few = omega (arith, later.few) }
      ]
    where
      more : {bs : List ℕ} → AreMarks (4 + 5 * n) bs → AreMarks (5 * suc n) bs
      more m = record { marks = m.marks; few = omega (arith, m.few) }

-- the ranks at home at a node are a text
pub peers_are_text : (node : ℕ) (homes : List ℕ) → length homes ≤ 4096 → IsTrue (is_text (peers_text node homes))
peers_are_text node homes few =
    let text = ranks_marks _ 0 (length homes) (omega (arith, few)) in
    marks_are_text (peers_text node homes) text.marks (omega (arith, text.few, few))
