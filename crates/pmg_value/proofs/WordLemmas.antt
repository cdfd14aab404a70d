-- Words are told apart by their fronts.
use Rattle.std.proofs.Common.{◌≡◌, ℕ, zero, suc, ◌+◌, ◌*◌, ◌%◌, ◌<◌, ◌≤◌, Bool, true, false, cond, ◌==◌, nat_lt, nat_le, List, [], ◌∷◌, length, get_or, IsTrue, refl, sym, ap, ◌∙◌, arith}
use Rattle.std.specs.Prelude.{◌≢◌, drop, take}
use Rattle.std.specs.List.{list_all}
use Rattle.std.specs.declared.cmp.Ordering.TheVariants.{Less, Equal, Greater}
use Rattle.std.specs.Ordering.{nat_cmp, ordering_then}
use Rattle.std.specs.Cmp.Lexicographic.{slice_cmp}
use Rattle.std.proofs.lemmas.Bool.{and_parts, leb-true, lt-ltb, le-ltb, ltb-true, ltb-false, eq-eqb, ne_eqb}
use Rattle.pmg_value.specs.Names.{is_printable}
use Rattle.pmg_value.specs.Words.{front_from, first_eight, second_eight}

-- each byte is one
abbrev pub AreBytes : List ℕ → Type 0
AreBytes [] = Unit {0}
AreBytes (b ∷ bs) = (b ≤ 255) × AreBytes bs

-- the first eight bytes, by the number of each
pub front_is : (bs : List ℕ) → (((((get_or bs 0 0 * 256 + get_or bs 1 0) * 65536 + (get_or bs 2 0 * 256 + get_or bs 3 0)) * 65536 + (get_or bs 4 0 * 256 + get_or bs 5 0)) * 65536) + (get_or bs 6 0 * 256 + get_or bs 7 0)) ≡ first_eight bs
front_is [] = omega arith
front_is (a ∷ []) = omega arith
front_is (a ∷ b ∷ []) = omega arith
front_is (a ∷ b ∷ c ∷ []) = omega arith
front_is (a ∷ b ∷ c ∷ d ∷ []) = omega arith
front_is (a ∷ b ∷ c ∷ d ∷ e ∷ []) = omega arith
front_is (a ∷ b ∷ c ∷ d ∷ e ∷ f ∷ []) = omega arith
front_is (a ∷ b ∷ c ∷ d ∷ e ∷ f ∷ g ∷ []) = omega arith
front_is (a ∷ b ∷ c ∷ d ∷ e ∷ f ∷ g ∷ h ∷ bs) = omega arith

-- a list that has zeros past its first n items has at each index what these have there
pub padded : (n : ℕ) (bs : List ℕ) → ((i : ℕ) → n ≤ i → get_or bs i 0 ≡ 0) → (i : ℕ) → get_or (take n bs) i 0 ≡ get_or bs i 0
padded zero bs zeros i = sym (zeros i (omega arith))
padded (suc n) [] zeros i = refl
padded (suc n) (b ∷ bs) zeros zero = refl
padded (suc n) (b ∷ bs) zeros (suc i) = padded n bs (λ j le. zeros (suc j) (omega (arith, le))) i

-- what is less stays less, whatever bytes come after it
less : (n x y : ℕ) (xs bs : List ℕ) → x < y → AreBytes xs → front_from n x xs < front_from n y bs
less zero x y xs bs lt all = lt
less (suc n) x y [] [] lt all = less n (x * 256) (y * 256) [] [] (omega (arith, lt)) tt
less (suc n) x y [] (b ∷ bs) lt all = less n (x * 256) (y * 256 + b) [] bs (omega (arith, lt)) tt
less (suc n) x y (a ∷ xs) [] lt all = less n (x * 256 + a) (y * 256) xs [] (omega (arith, lt, all.0)) all.1
less (suc n) x y (a ∷ xs) (b ∷ bs) lt all = less n (x * 256 + a) (y * 256 + b) xs bs (omega (arith, lt, all.0)) all.1

-- nothing more is the least that can come
least : (n x y : ℕ) (bs : List ℕ) → x ≤ y → front_from n x [] ≤ front_from n y bs
least zero x y bs le = le
least (suc n) x y [] le = least n (x * 256) (y * 256) [] (omega (arith, le))
least (suc n) x y (b ∷ bs) le = least n (x * 256) (y * 256 + b) bs (omega (arith, le))

cmp_less : (m n : ℕ) → m < n → nat_cmp m n ≡ Less
cmp_less m n lt = ap (λ b. cond b Less (cond (m == n) Equal Greater)) (lt-ltb m n lt)

cmp_greater : (m n : ℕ) → n < m → nat_cmp m n ≡ Greater
cmp_greater m n lt =
    ap (λ b. cond b Less (cond (m == n) Equal Greater)) (le-ltb m n (omega (arith, lt)))
    ∙ ap (λ b. cond b Equal Greater) (ne_eqb m n (λ same. absurd (omega (arith, lt, same))))

cmp_same : (m n : ℕ) → m ≡ n → nat_cmp m n ≡ Equal
cmp_same m n same =
    ap (λ b. cond b Less (cond (m == n) Equal Greater)) (le-ltb m n (omega (arith, same))) ∙ ap (λ b. cond b Equal Greater) (eq-eqb m n same)

-- what is added to both changes nothing
cmp_added : (x m n k l : ℕ) → k ≡ x + m → l ≡ x + n → nat_cmp m n ≡ nat_cmp k l
cmp_added x m n k l left right = by_order (nat_lt m n) refl (nat_lt n m) refl
  where
    by_order : (t : Bool) → nat_lt m n ≡ t → (u : Bool) → nat_lt n m ≡ u → nat_cmp m n ≡ nat_cmp k l
    by_order true e u f = let lt = ltb-true m n e in cmp_less m n lt ∙ sym (cmp_less k l (omega (arith, lt, left, right)))
    by_order false e true f = let lt = ltb-true n m f in cmp_greater m n lt ∙ sym (cmp_greater k l (omega (arith, lt, left, right)))
    by_order false e false f =
        let same : m ≡ n = omega (arith, ltb-false m n e, ltb-false n m f) in cmp_same m n same ∙ sym (cmp_same k l (omega (arith, same, left, right)))

-- texts with different fronts compare as these do
decides : (n x : ℕ) (xs bs : List ℕ) → AreBytes xs → AreBytes bs → (front_from n x xs ≢ front_from n x bs)
    → slice_cmp nat_cmp xs bs ≡ nat_cmp (front_from n x xs) (front_from n x bs)
decides zero x xs bs p q ne = absurd (ne refl)
decides (suc n) x [] [] p q ne = absurd (ne refl)
decides (suc n) x [] (b ∷ bs) p q ne =
    let le = least n (x * 256) (x * 256 + b) bs (omega arith) in sym (cmp_less (front_from n (x * 256) []) (front_from n (x * 256 + b) bs) (omega (arith, le, ne)))
decides (suc n) x (a ∷ xs) [] p q ne =
    let le = least n (x * 256) (x * 256 + a) xs (omega arith) in sym (cmp_greater (front_from n (x * 256 + a) xs) (front_from n (x * 256) []) (omega (arith, le, ne)))
decides (suc n) x (a ∷ xs) (b ∷ bs) p q ne =
    by_order (decides n (x * 256 + a) xs bs p.1 q.1) (nat_lt a b) refl (nat_lt b a) refl
  where
    by_order : ((front_from n (x * 256 + a) xs ≢ front_from n (x * 256 + a) bs) → slice_cmp nat_cmp xs bs ≡ nat_cmp (front_from n (x * 256 + a) xs) (front_from n (x * 256 + a) bs))
        → (t : Bool) → nat_lt a b ≡ t → (u : Bool) → nat_lt b a ≡ u → ordering_then (nat_cmp a b) (slice_cmp nat_cmp xs bs) ≡ nat_cmp (front_from n (x * 256 + a) xs) (front_from n (x * 256 + b) bs)
    by_order rest true e u f =
        let lt = ltb-true a b e in
        ap (λ o. ordering_then o (slice_cmp nat_cmp xs bs)) (cmp_less a b lt) ∙ sym (cmp_less (front_from n (x * 256 + a) xs) (front_from n (x * 256 + b) bs) (less n (x * 256 + a) (x * 256 + b) xs bs (omega (arith, lt)) p.1))
    by_order rest false e true f =
        let lt = ltb-true b a f in
        ap (λ o. ordering_then o (slice_cmp nat_cmp xs bs)) (cmp_greater a b lt) ∙ sym (cmp_greater (front_from n (x * 256 + a) xs) (front_from n (x * 256 + b) bs) (less n (x * 256 + b) (x * 256 + a) bs xs (omega (arith, lt)) q.1))
    by_order rest false e false f =
        let same : a ≡ b = omega (arith, ltb-false a b e, ltb-false b a f) in
        ap (λ o. ordering_then o (slice_cmp nat_cmp xs bs)) (cmp_same a b same)
        ∙ rest (λ alike. ne (alike ∙ ap (λ c. front_from n (x * 256 + c) bs) same))
        ∙ ap (λ c. nat_cmp (front_from n (x * 256 + a) xs) (front_from n (x * 256 + c) bs)) same

-- texts with equal fronts, none longer than these, compare as their lengths do
short : (n x : ℕ) (xs bs : List ℕ) → AreBytes xs → AreBytes bs → length xs ≤ n → length bs ≤ n → front_from n x xs ≡ front_from n x bs
    → slice_cmp nat_cmp xs bs ≡ nat_cmp (length xs) (length bs)
short n x [] [] p q few fewer alike = sym (cmp_same 0 0 refl)
short n x [] (b ∷ bs) p q few fewer alike = sym (cmp_less 0 (length (b ∷ bs)) (omega arith))
short n x (a ∷ xs) [] p q few fewer alike = sym (cmp_greater (length (a ∷ xs)) 0 (omega arith))
short zero x (a ∷ xs) (b ∷ bs) p q few fewer alike = absurd (omega (arith, few))
short (suc n) x (a ∷ xs) (b ∷ bs) p q few fewer alike =
    by_order (short n (x * 256 + a) xs bs p.1 q.1 (omega (arith, few)) (omega (arith, fewer))) (nat_lt a b) refl (nat_lt b a) refl
  where
    by_order : (front_from n (x * 256 + a) xs ≡ front_from n (x * 256 + a) bs → slice_cmp nat_cmp xs bs ≡ nat_cmp (length xs) (length bs))
        → (t : Bool) → nat_lt a b ≡ t → (u : Bool) → nat_lt b a ≡ u → ordering_then (nat_cmp a b) (slice_cmp nat_cmp xs bs) ≡ nat_cmp (length (a ∷ xs)) (length (b ∷ bs))
    by_order rest true e u f =
        absurd (omega (arith, alike, less n (x * 256 + a) (x * 256 + b) xs bs (omega (arith, ltb-true a b e)) p.1))
    by_order rest false e true f =
        absurd (omega (arith, alike, less n (x * 256 + b) (x * 256 + a) bs xs (omega (arith, ltb-true b a f)) q.1))
    by_order rest false e false f =
        let same : a ≡ b = omega (arith, ltb-false a b e, ltb-false b a f) in
        ap (λ o. ordering_then o (slice_cmp nat_cmp xs bs)) (cmp_same a b same)
        ∙ rest (alike ∙ ap (λ c. front_from n (x * 256 + c) bs) (sym same))
        ∙ cmp_added 1 (length xs) (length bs) (length (a ∷ xs)) (length (b ∷ bs)) (omega arith) (omega arith)

-- printable bytes are bytes
printable_are_bytes : (bs : List ℕ) → IsTrue (list_all is_printable bs) → AreBytes bs
printable_are_bytes [] all = tt
printable_are_bytes (b ∷ bs) all =
    let parts = and_parts (is_printable b) (list_all is_printable bs) all in
    let low = leb-true b 126 (and_parts (nat_le 32 b) (nat_le b 126) parts.0).1 in
    (omega (arith, low), printable_are_bytes bs parts.1)

-- a printable byte is none of the zeros past the end of a text
no_zero : (b : ℕ) (bs : List ℕ) → IsTrue (list_all is_printable (b ∷ bs)) → (1 ≤ b) × IsTrue (list_all is_printable bs)
no_zero b bs all =
    let parts = and_parts (is_printable b) (list_all is_printable bs) all in
    let low = leb-true 32 b (and_parts (nat_le 32 b) (nat_le b 126) parts.0).0 in
    (omega (arith, low), parts.1)

-- the last of the first bytes
last_byte : (n x : ℕ) (bs : List ℕ) → AreBytes bs → front_from (suc n) x bs % 256 ≡ get_or bs n 0
last_byte zero x [] all = omega arith
last_byte zero x (b ∷ bs) all = omega (arith, all.0)
last_byte (suc n) x [] all = last_byte n (x * 256) [] tt
last_byte (suc n) x (b ∷ bs) all = last_byte n (x * 256 + b) bs all.1

-- a text with no byte there is no longer
is_short : (n : ℕ) (bs : List ℕ) → IsTrue (list_all is_printable bs) → get_or bs n 0 ≡ 0 → length bs ≤ n
is_short n [] all none = omega arith
is_short zero (b ∷ bs) all none = absurd (omega (arith, (no_zero b bs all).0, none))
is_short (suc n) (b ∷ bs) all none = let rest = is_short n bs (no_zero b bs all).1 none in omega (arith, rest)

-- texts with equal fronts, none longer than these, are of one length
same_length : (n x : ℕ) (xs bs : List ℕ) → IsTrue (list_all is_printable xs) → IsTrue (list_all is_printable bs) → length xs ≤ n → length bs ≤ n
    → front_from n x xs ≡ front_from n x bs → length xs ≡ length bs
same_length n x [] [] p q few fewer alike = refl
same_length zero x [] (b ∷ bs) p q few fewer alike = absurd (omega (arith, fewer))
same_length zero x (a ∷ xs) bs p q few fewer alike = absurd (omega (arith, few))
same_length (suc n) x [] (b ∷ bs) p q few fewer alike =
    absurd (omega (arith, alike, less n (x * 256) (x * 256 + b) [] bs (omega (arith, (no_zero b bs q).0)) tt))
same_length (suc n) x (a ∷ xs) [] p q few fewer alike =
    absurd (omega (arith, alike, less n (x * 256) (x * 256 + a) [] xs (omega (arith, (no_zero a xs p).0)) tt))
same_length (suc n) x (a ∷ xs) (b ∷ bs) p q few fewer alike =
    by_order (λ same. same_length n (x * 256 + a) xs bs (no_zero a xs p).1 (no_zero b bs q).1 (omega (arith, few)) (omega (arith, fewer))
    (alike ∙ ap (λ c. front_from n (x * 256 + c) bs) (sym same))) (nat_lt a b) refl (nat_lt b a) refl
  where
    by_order : (a ≡ b → length xs ≡ length bs) → (t : Bool) → nat_lt a b ≡ t → (u : Bool) → nat_lt b a ≡ u → length (a ∷ xs) ≡ length (b ∷ bs)
    by_order rest true e u f =
        absurd (omega (arith, alike, less n (x * 256 + a) (x * 256 + b) xs bs (omega (arith, ltb-true a b e)) (printable_are_bytes (a ∷ xs) p).1))
    by_order rest false e true f =
        absurd (omega (arith, alike, less n (x * 256 + b) (x * 256 + a) bs xs (omega (arith, ltb-true b a f)) (printable_are_bytes (b ∷ bs) q).1))
    by_order rest false e false f = ap suc (rest (omega (arith, ltb-false a b e, ltb-false b a f)))

-- a number that begins with x, and then has the first eight bytes
begun : (x : ℕ) (bs : List ℕ) → front_from 8 x bs ≡ x * 18446744073709551616 + first_eight bs
begun x [] = omega arith
begun x (a ∷ []) = omega arith
begun x (a ∷ b ∷ []) = omega arith
begun x (a ∷ b ∷ c ∷ []) = omega arith
begun x (a ∷ b ∷ c ∷ d ∷ []) = omega arith
begun x (a ∷ b ∷ c ∷ d ∷ e ∷ []) = omega arith
begun x (a ∷ b ∷ c ∷ d ∷ e ∷ f ∷ []) = omega arith
begun x (a ∷ b ∷ c ∷ d ∷ e ∷ f ∷ g ∷ []) = omega arith
begun x (a ∷ b ∷ c ∷ d ∷ e ∷ f ∷ g ∷ h ∷ bs) = omega arith

-- the first eight bytes, and then the next ones
in_two : (x : ℕ) (bs : List ℕ) → front_from 16 x bs ≡ front_from 8 (front_from 8 x bs) (drop 8 bs)
in_two x [] = refl
in_two x (a ∷ []) = refl
in_two x (a ∷ b ∷ []) = refl
in_two x (a ∷ b ∷ c ∷ []) = refl
in_two x (a ∷ b ∷ c ∷ d ∷ []) = refl
in_two x (a ∷ b ∷ c ∷ d ∷ e ∷ []) = refl
in_two x (a ∷ b ∷ c ∷ d ∷ e ∷ f ∷ []) = refl
in_two x (a ∷ b ∷ c ∷ d ∷ e ∷ f ∷ g ∷ []) = refl
in_two x (a ∷ b ∷ c ∷ d ∷ e ∷ f ∷ g ∷ h ∷ bs) = refl

-- the first sixteen bytes, of the two numbers that are kept
both : (bs : List ℕ) → front_from 16 0 bs ≡ first_eight bs * 18446744073709551616 + second_eight bs
both bs = in_two 0 bs ∙ begun (first_eight bs) (drop 8 bs)

module _ (a b : List ℕ) (f g s t : ℕ)
    (first : (f ≡ first_eight a) × (s ≡ second_eight a) × IsTrue (list_all is_printable a))
    (other : (g ≡ first_eight b) × (t ≡ second_eight b) × IsTrue (list_all is_printable b)) where
  -- words whose first numbers differ compare as these do
  pub by_firsts : (f ≢ g) → nat_cmp f g ≡ slice_cmp nat_cmp a b
  by_firsts apart =
      (λ i. nat_cmp (first.0 i) (other.0 i))
      ∙ sym (decides 8 0 a b (printable_are_bytes a first.2) (printable_are_bytes b other.2)
      (λ same. apart (first.0 ∙ same ∙ sym other.0)))

  -- words whose first numbers are equal and whose second ones differ compare as these do
  pub by_seconds : f ≡ g → (s ≢ t) → nat_cmp s t ≡ slice_cmp nat_cmp a b
  by_seconds alike apart =
      let same : first_eight a ≡ first_eight b = sym first.0 ∙ alike ∙ other.0 in
      (λ i. nat_cmp (first.1 i) (other.1 i))
      ∙ cmp_added (first_eight a * 18446744073709551616) (second_eight a) (second_eight b) (front_from 16 0 a) (front_from 16 0 b)
      (both a) (both b ∙ (λ i. sym same i * 18446744073709551616 + second_eight b))
      ∙ sym (decides 16 0 a b (printable_are_bytes a first.2) (printable_are_bytes b other.2)
      (λ equal. apart (omega (arith, sym (both a) ∙ equal ∙ both b, same, first.1, other.1))))

  -- words whose numbers are equal, and whose second one ends in no byte, are equal
  pub by_end : f ≡ g → s ≡ t → s % 256 ≡ 0 → Equal ≡ slice_cmp nat_cmp a b
  by_end alike even ends =
      let same : first_eight a ≡ first_eight b = sym first.0 ∙ alike ∙ other.0 in
      let next : second_eight a ≡ second_eight b = sym first.1 ∙ even ∙ other.1 in
      let all : front_from 16 0 a ≡ front_from 16 0 b = both a ∙ (λ i. same i * 18446744073709551616 + next i) ∙ sym (both b) in
      let last : front_from 16 0 a % 256 ≡ 0 = omega (arith, both a, first.1, ends) in
      let few = is_short 15 a first.2 (sym (last_byte 15 0 a (printable_are_bytes a first.2)) ∙ last) in
      let fewer = is_short 15 b other.2 (sym (last_byte 15 0 b (printable_are_bytes b other.2)) ∙ sym (ap (λ n. n % 256) all) ∙ last) in
      sym (short 16 0 a b (printable_are_bytes a first.2) (printable_are_bytes b other.2) (omega (arith, few)) (omega (arith, fewer)) all
      ∙ cmp_same (length a) (length b) (same_length 16 0 a b first.2 other.2 (omega (arith, few)) (omega (arith, fewer)) all))
