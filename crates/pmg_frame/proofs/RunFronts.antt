-- The first run of a list: as many of its items as go on one from the other.
use Rattle.std.proofs.Common.{◌≡◌, ℕ, zero, suc, ◌+◌, ◌-◌, ◌<◌, Bool, true, false, ◌&&◌, List, [], ◌∷◌, ◌++◌, length, get_or, take, drop, Some, refl, sym, ap, ◌∙◌, append_assoc, arith, inl, inr}
use Rattle.std.specs.List.{slice_get, list_all, flat_map}
use Rattle.std.proofs.lemmas.Bool.{and_from, cases_Bool, not_from_false, false_from_ne_true}
use Rattle.std.proofs.lemmas.List.{length-append, length-drop, take_all}
use Rattle.std.proofs.lemmas.Option.{slice_get-get_or}
use Rattle.pmg_value.specs.Lists.{leads, is_chain}
use Rattle.pmg_frame.specs.Runs.{Ranked, RankRun, run, next_rank, line, with_item, runs_of, is_apart, IsFirstRun}
use Rattle.pmg_frame.proofs.RunRules.{IsRanked, runs_of-are, runs_of-line}

-- ---- lists

drop_here : {A : Type 0} (n : ℕ) (xs : List A) (y : A) → slice_get xs n ≡ Some y → drop n xs ≡ y ∷ drop (suc n) xs
drop_here zero [] y h = absurd cc
drop_here {A = A} zero (x ∷ xs) y h = let same : x ≡ y = cc in ap (λ (z : A). z ∷ xs) same
drop_here (suc n) [] y h = absurd cc
drop_here (suc n) (x ∷ xs) y h = drop_here n xs y h

slice_get-drop : {A : Type 0} (n : ℕ) (xs : List A) → slice_get (drop n xs) 0 ≡ slice_get xs n
slice_get-drop zero xs = refl
slice_get-drop (suc n) [] = refl
slice_get-drop (suc n) (x ∷ xs) = slice_get-drop n xs

-- ---- the items of a run

line_more_last : {A : Type 0} (k : Ranked A) → IsRanked k → (n : ℕ) (x : A) → line k (suc n) x ≡ line k n x ++ k.at x (k.rank x + n) ∷ []
unfolding line
line_more_last {A = A} k is zero x = let none : k.rank x + 0 ≡ k.rank x = omega arith in rw none (ap (λ (y : A). y ∷ []) (sym (is.at_rank x)))
line_more_last {A = A} k is (suc n) x =
    let rank : k.rank (next_rank k x) ≡ suc (k.rank x) = is.rank_at x (suc (k.rank x)) in
    let last : k.rank (next_rank k x) + n ≡ k.rank x + suc n = omega arith in
    ap (λ (ys : List A). x ∷ ys) (line_more_last k is n (next_rank k x)
    ∙ ap (λ (y : A). line k n (next_rank k x) ++ y ∷ []) (is.at_at x (suc (k.rank x)) (k.rank (next_rank k x) + n) ∙ ap (k.at x) last))

get_first : {A : Type 0} (k : Ranked A) (n : ℕ) (x : A) (ys : List A) → slice_get (line k (suc n) x ++ ys) 0 ≡ Some x
unfolding line
get_first k n x ys = refl

pub get_last : {A : Type 0} (k : Ranked A) → IsRanked k → (n : ℕ) (x : A) (ys : List A) → slice_get (line k (suc n) x ++ ys) n ≡ Some (k.at x (k.rank x + n))
unfolding line
get_last {A = A} k is zero x ys = let none : k.rank x + 0 ≡ k.rank x = omega arith in rw none (ap (λ (y : A). Some y) (sym (is.at_rank x)))
get_last {A = A} k is (suc n) x ys =
    let rank : k.rank (next_rank k x) ≡ suc (k.rank x) = is.rank_at x (suc (k.rank x)) in
    let last : k.rank (next_rank k x) + n ≡ k.rank x + suc n = omega arith in
    get_last k is n (next_rank k x) ys ∙ ap (λ (y : A). Some y) (is.at_at x (suc (k.rank x)) (k.rank (next_rank k x) + n) ∙ ap (k.at x) last)

-- ---- the first run

-- the list begins with so many items of a run from this item on
abbrev pub BeginsWith : {A : Type 0} → Ranked A → List A → ℕ → A → Type 0
BeginsWith k xs n x = xs ≡ line k n x ++ drop n xs

pub begins_with_one : {A : Type 0} (k : Ranked A) (xs : List A) (x : A) → slice_get xs 0 ≡ Some x → BeginsWith k xs 1 x
unfolding line
begins_with_one k xs x h = drop_here 0 xs x h

-- and with one more, where the item behind them goes on
pub begins_with_more : {A : Type 0} (k : Ranked A) → IsRanked k → (xs : List A) (n : ℕ) (x : A) → BeginsWith k xs n x → slice_get xs n ≡ Some (k.at x (k.rank x + n)) → BeginsWith k xs (suc n) x
begins_with_more {A = A} k is xs n x begins goes_on =
    let y = k.at x (k.rank x + n) in
    begins
    ∙ ap (λ (ys : List A). line k n x ++ ys) (drop_here n xs y goes_on)
    ∙ sym (append_assoc (line k n x) (y ∷ []) (drop (suc n) xs))
    ∙ ap (λ (ys : List A). ys ++ drop (suc n) xs) (sym (line_more_last k is n x))

first_of-with_item : {A : Type 0} (k : Ranked A) (r : RankRun A) (y : A) (rs : List (RankRun A)) → k.same (k.at r.first (suc r.last)) y ≡ false → is_chain (is_apart k) (with_item k y rs) ≡ true
    → leads (is_apart k) r (with_item k y rs) ≡ true
first_of-with_item k r y [] ends chain = and_from _ _ (not_from_false _ ends) chain
first_of-with_item k r y (s ∷ ss) ends chain =
    elim (cases_Bool (k.same (next_rank k y) s.first)) [
      | inl goes ↦ rw goes (and_from _ _ (not_from_false _ ends) (rw goes at chain))
      | inr parts ↦ rw parts (and_from _ _ (not_from_false _ ends) (rw parts at chain))
    ]

apart_from : {A : Type 0} (k : Ranked A) → IsRanked k → (r : RankRun A) (ys : List A) → (slice_get ys 0 ≡ Some (k.at r.first (suc r.last)) → ⊥) → leads (is_apart k) r (runs_of k ys) ≡ true
unfolding runs_of
apart_from k is r [] ends = refl
apart_from {A = A} k is r (y ∷ ys) ends =
    let other : k.same (k.at r.first (suc r.last)) y ≡ false = false_from_ne_true _ (λ same. ends (ap (λ (z : A). Some z) (sym ((is.same (k.at r.first (suc r.last)) y).0 same)))) in
    first_of-with_item k r y (runs_of k ys) other (runs_of-are k is (y ∷ ys)).apart

-- as many as go on are the first run
pub first_run : {A : Type 0} (k : Ranked A) → IsRanked k → (xs : List A) (n : ℕ) (x : A) → BeginsWith k xs (suc n) x → (slice_get xs (suc n) ≡ Some (k.at x (k.rank x + suc n)) → ⊥) → IsFirstRun k xs (suc n)
first_run {A = A} k is xs n x begins ends p q first last =
    let ys = drop (suc n) xs in
    let m = k.rank x + n in
    let place : suc n - 1 ≡ n = omega arith in
    let more : suc m ≡ k.rank x + suc n = omega arith in
    let first_is : p ≡ x = let e : Some p ≡ Some x = sym first ∙ ap (λ (zs : List A). slice_get zs 0) begins ∙ get_first k n x ys in cc in
    let last_is : q ≡ k.at x m = let e : Some q ≡ Some (k.at x m) = sym (rw place at last) ∙ ap (λ (zs : List A). slice_get zs n) begins ∙ get_last k is n x ys in cc in
    let parted : leads (is_apart k) (run x m) (runs_of k ys) ≡ true = apart_from k is (run x m) ys (λ next_is. ends (sym (slice_get-drop (suc n) xs) ∙ next_is ∙ ap (λ (l : ℕ). Some (k.at x l)) more)) in
    ap (runs_of k) begins
    ∙ runs_of-line k is n x ys parted
    ∙ ap (λ (z : A). run z m ∷ runs_of k ys) (sym first_is)
    ∙ ap (λ (l : ℕ). run p l ∷ runs_of k ys) (sym (is.rank_at x m) ∙ ap k.rank (sym last_is))

-- ---- a loop over what is left

pub there_at : {A : Type 0} (xs : List A) (i : ℕ) (x : A) → i < length xs → x ≡ get_or xs i x → slice_get xs i ≡ Some x
there_at {A = A} xs i x lt is = slice_get-get_or xs i x lt ∙ ap (λ (y : A). Some y) (sym is)

pub left_is : {A : Type 0} (n : ℕ) (xs : List A) → take (length xs - n) (drop n xs) ≡ drop n xs
left_is n xs = take_all (length xs - n) (drop n xs) (omega (arith, length-drop n xs))

-- the first run comes before the runs of what is left
pub runs_left : {A : Type 0} (k : Ranked A) (xs : List A) (n : ℕ) (first last : A) → IsFirstRun k xs n → slice_get xs 0 ≡ Some first → slice_get xs (n - 1) ≡ Some last
    → runs_of k xs ≡ run first (k.rank last) ∷ runs_of k (take (length xs - n) (drop n xs))
runs_left k xs n first last is p q = rw left_is (is first last p q)

-- what was written, and the runs that are left
pub written_more : {A : Type 0} (k : Ranked A) (spell : RankRun A → List ℕ) (xs : List A) (n : ℕ) (first last : A) (out new total : List ℕ)
    → IsFirstRun k xs n → slice_get xs 0 ≡ Some first → slice_get xs (n - 1) ≡ Some last → new ≡ out ++ spell (run first (k.rank last))
    → out ++ flat_map spell (runs_of k xs) ≡ total → new ++ flat_map spell (runs_of k (take (length xs - n) (drop n xs))) ≡ total
written_more {A = A} k spell xs n first last out new total is p q put so_far =
    let left = take (length xs - n) (drop n xs) in
    let text = spell (run first (k.rank last)) in
    ap (λ (t : List ℕ). t ++ flat_map spell (runs_of k left)) put
    ∙ append_assoc out text (flat_map spell (runs_of k left))
    ∙ ap (λ (rs : List (RankRun A)). out ++ flat_map spell rs) (sym (runs_left k xs n first last is p q))
    ∙ so_far

-- the number of the runs so far, and of those that are left
pub counted_more : {A : Type 0} (k : Ranked A) (xs : List A) (n : ℕ) (first last : A) (count total : ℕ)
    → IsFirstRun k xs n → slice_get xs 0 ≡ Some first → slice_get xs (n - 1) ≡ Some last
    → count + length (runs_of k xs) ≡ total → count + 1 + length (runs_of k (take (length xs - n) (drop n xs))) ≡ total
counted_more k xs n first last count total is p q so_far = let more = ap length (runs_left k xs n first last is p q) in omega (arith, more, so_far)

-- the length of what the runs so far take, and those that are left
pub sized_more : {A : Type 0} (k : Ranked A) (spell : RankRun A → List ℕ) (xs : List A) (n : ℕ) (first last : A) (size more total : ℕ)
    → IsFirstRun k xs n → slice_get xs 0 ≡ Some first → slice_get xs (n - 1) ≡ Some last → more ≡ length (spell (run first (k.rank last)))
    → size + length (flat_map spell (runs_of k xs)) ≡ total → size + more + length (flat_map spell (runs_of k (take (length xs - n) (drop n xs)))) ≡ total
sized_more {A = A} k spell xs n first last size more total is p q len so_far =
    let left = flat_map spell (runs_of k (take (length xs - n) (drop n xs))) in
    let all = ap (λ (rs : List (RankRun A)). length (flat_map spell rs)) (runs_left k xs n first last is p q) in
    omega (arith, all, so_far, len, length-append (spell (run first (k.rank last))) left)

-- a test of each run, of which the first has passed
pub tested_more : {A : Type 0} (k : Ranked A) (test : RankRun A → Bool) (xs : List A) (n : ℕ) (first last : A) (total : Bool)
    → IsFirstRun k xs n → slice_get xs 0 ≡ Some first → slice_get xs (n - 1) ≡ Some last → test (run first (k.rank last)) ≡ true
    → list_all test (runs_of k xs) ≡ total → list_all test (runs_of k (take (length xs - n) (drop n xs))) ≡ total
tested_more {A = A} k test xs n first last total is p q passes so_far =
    let left = list_all test (runs_of k (take (length xs - n) (drop n xs))) in
    let all = ap (list_all test) (runs_left k xs n first last is p q) in
    sym (all ∙ ap (λ (b : Bool). b && left) passes) ∙ so_far

pub none_left : {A : Type 0} (k : Ranked A) (xs : List A) → length xs ≡ 0 → runs_of k xs ≡ []
unfolding runs_of
none_left k [] e = refl
none_left k (x ∷ xs) e = absurd (omega arith)

-- ---- what holds of each item

-- where the rank does not matter, a test of each item is a test of the first one of each run
pub all_first : {A : Type 0} (k : Ranked A) → IsRanked k → (test : A → Bool) → ((x : A) (n : ℕ) → test (k.at x n) ≡ test x) → (xs : List A) → list_all (λ r. test r.first) (runs_of k xs) ≡ list_all test xs
unfolding runs_of
all_first k is test alike [] = refl
all_first {A = A} k is test alike (x ∷ xs) = with_first x (runs_of k xs) ∙ ap (λ (b : Bool). test x && b) (all_first k is test alike xs)
  where
    twice : (b c : Bool) → (b && c) ≡ (b && (b && c))
    twice true c = refl
    twice false c = refl

    with_first : (x : A) (rs : List (RankRun A)) → list_all (λ (r : RankRun A). test r.first) (with_item k x rs) ≡ (test x && list_all (λ (r : RankRun A). test r.first) rs)
    with_first x [] = refl
    with_first x (r ∷ rs) =
        let others = list_all (λ (s : RankRun A). test s.first) rs in
        elim (cases_Bool (k.same (next_rank k x) r.first)) [
          | inl goes ↦
              let same : test r.first ≡ test x = ap test (sym ((is.same (next_rank k x) r.first).0 goes)) ∙ alike x (suc (k.rank x)) in
              rw (goes, same) (twice (test x) others)
          | inr ends ↦ rw ends refl
        ]
