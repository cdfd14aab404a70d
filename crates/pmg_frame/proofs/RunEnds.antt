-- Where the runs of a list end.
use Rattle.std.proofs.Common.{◌≡◌, ℕ, zero, suc, ◌+◌, ◌-◌, ◌<◌, ◌≤◌, true, false, List, [], ◌∷◌, ◌++◌, length, drop, get_or, Some, refl, sym, ap, subst, ◌∙◌, append_assoc, arith}
use Rattle.std.specs.List.{slice_get, flat_map}
use Rattle.std.proofs.Math.ListN.{drop_of_length-le}
use Rattle.std.proofs.lemmas.List.{drop-drop, length-append}
use Rattle.std.proofs.lemmas.Option.{slice_get_read, slice_get_within}
use Rattle.pmg_frame.specs.Runs.{Ranked, RankRun, run, next_rank, runs_of, IsFirstRun}
use Rattle.pmg_frame.proofs.RunRules.{IsRanked}
use Rattle.pmg_frame.proofs.RunFronts.{BeginsWith, begins_with_one, begins_with_more, get_last, first_run}

-- ---- lists behind an index

pub get_behind : {A : Type 0} (n i : ℕ) (xs : List A) → slice_get (drop n xs) i ≡ slice_get xs (n + i)
get_behind zero i xs = let none : 0 + i ≡ i = omega arith in rw none refl
get_behind (suc n) i [] = refl
get_behind (suc n) i (x ∷ xs) = let more : suc n + i ≡ suc (n + i) = omega arith in rw more (get_behind n i xs)

-- ---- one run

-- from the one index to the other the items go on one from another
abbrev pub GoesOn : {A : Type 0} → Ranked A → List A → ℕ → ℕ → Type 0
GoesOn {A} k xs start i = (x : A) → slice_get xs start ≡ Some x → BeginsWith k (drop start xs) (i - start) x

pub goes_alone : {A : Type 0} (k : Ranked A) (xs : List A) (start : ℕ) → GoesOn k xs start (start + 1)
goes_alone k xs start x h =
    let here : start + 0 ≡ start = omega arith in
    let one : start + 1 - start ≡ 1 = omega arith in
    rw one (begins_with_one k (drop start xs) x (get_behind start 0 xs ∙ ap (slice_get xs) here ∙ h))

-- the item before the end is that of its rank
last_before : {A : Type 0} (k : Ranked A) → IsRanked k → (xs : List A) (start i : ℕ) (x y : A) → start < i → slice_get xs start ≡ Some x → slice_get xs (i - 1) ≡ Some y → GoesOn k xs start i
    → y ≡ k.at x (k.rank x + (i - 1 - start))
last_before {A = A} k is xs start i x y lt first last goes =
    let n = i - 1 - start in
    let many : i - start ≡ suc n = omega (arith, lt) in
    let place : start + n ≡ i - 1 = omega (arith, lt) in
    let begins : BeginsWith k (drop start xs) (suc n) x = rw many at goes x first in
    let e : Some y ≡ Some (k.at x (k.rank x + n)) =
    sym (get_behind start n xs ∙ ap (slice_get xs) place ∙ last) ∙ ap (λ (zs : List A). slice_get zs n) begins ∙ get_last k is n x (drop (suc n) (drop start xs)) in
    cc

next_before : {A : Type 0} (k : Ranked A) → IsRanked k → (x y : A) (n : ℕ) → y ≡ k.at x (k.rank x + n) → next_rank k y ≡ k.at x (k.rank x + suc n)
next_before k is x y n e =
    let rank : k.rank y ≡ k.rank x + n = ap k.rank e ∙ is.rank_at x (k.rank x + n) in
    let more : suc (k.rank x + n) ≡ k.rank x + suc n = omega arith in
    ap (λ z. k.at z (suc (k.rank y))) e ∙ is.at_at x (k.rank x + n) (suc (k.rank y)) ∙ ap (λ r. k.at x (suc r)) rank ∙ ap (k.at x) more

-- two items that are read one after the other
pub read_both : {A : Type 0} (xs : List A) (start i : ℕ) (y z : A) → start < i → i < length xs → y ≡ get_or xs (i - 1) y → z ≡ get_or xs i z
    → (slice_get xs (i - 1) ≡ Some y) × (slice_get xs i ≡ Some z)
read_both xs start i y z low high y_is z_is = (slice_get_read xs (length xs) (i - 1) y refl (omega (arith, low, high)) y_is, slice_get_read xs (length xs) i z refl high z_is)

-- the item there goes on from the one before
pub goes_further : {A : Type 0} (k : Ranked A) → IsRanked k → (xs : List A) (start i : ℕ) (y z : A) → start < i → slice_get xs (i - 1) ≡ Some y → slice_get xs i ≡ Some z
    → k.same (next_rank k y) z ≡ true → GoesOn k xs start i → GoesOn k xs start (i + 1)
goes_further {A = A} k is xs start i y z lt last here same goes x first =
    let n = i - 1 - start in
    let many : i - start ≡ suc n = omega (arith, lt) in
    let more : i + 1 - start ≡ suc (suc n) = omega (arith, lt) in
    let place : start + suc n ≡ i = omega (arith, lt) in
    let begins : BeginsWith k (drop start xs) (suc n) x = rw many at goes x first in
    let goes_on : z ≡ k.at x (k.rank x + suc n) = sym ((is.same (next_rank k y) z).0 same) ∙ next_before k is x y n (last_before k is xs start i x y lt first last goes) in
    rw more (begins_with_more k is (drop start xs) (suc n) x begins (get_behind start (suc n) xs ∙ ap (slice_get xs) place ∙ here ∙ ap (λ (w : A). Some w) goes_on))

-- the item there does not
pub ends_there : {A : Type 0} (k : Ranked A) → IsRanked k → (xs : List A) (start i : ℕ) (y z : A) → start < i → slice_get xs (i - 1) ≡ Some y → slice_get xs i ≡ Some z
    → k.same (next_rank k y) z ≡ false → GoesOn k xs start i → IsFirstRun k (drop start xs) (i - start)
ends_there {A = A} k is xs start i y z lt last here other goes p q first last_is =
    let n = i - 1 - start in
    let many : i - start ≡ suc n = omega (arith, lt) in
    let place : start + suc n ≡ i = omega (arith, lt) in
    let begin : start + 0 ≡ start = omega arith in
    let first_is : slice_get xs start ≡ Some p = ap (slice_get xs) (sym begin) ∙ sym (get_behind start 0 xs) ∙ first in
    let begins : BeginsWith k (drop start xs) (suc n) p = rw many at goes p first_is in
    let after : next_rank k y ≡ k.at p (k.rank p + suc n) = next_before k is p y n (last_before k is xs start i p y lt first_is last goes) in
    let ends : slice_get (drop start xs) (suc n) ≡ Some (k.at p (k.rank p + suc n)) → ⊥ = λ e.
    let found : Some z ≡ Some (k.at p (k.rank p + suc n)) = sym here ∙ ap (slice_get xs) (sym place) ∙ sym (get_behind start (suc n) xs) ∙ e in
    let item : z ≡ k.at p (k.rank p + suc n) = cc in
    let same : k.same (next_rank k y) z ≡ true = (is.same (next_rank k y) z).1 (after ∙ sym item) in
    absurd cc in
    subst (λ (m : ℕ). IsFirstRun k (drop start xs) m) (sym many) (first_run k is (drop start xs) n p begins ends) p q first last_is

-- there is no item behind them
pub ends_last : {A : Type 0} (k : Ranked A) → IsRanked k → (xs : List A) (start : ℕ) → start < length xs → GoesOn k xs start (length xs) → IsFirstRun k (drop start xs) (length xs - start)
ends_last {A = A} k is xs start lt goes p q first last_is =
    let n = length xs - 1 - start in
    let many : length xs - start ≡ suc n = omega (arith, lt) in
    let place : start + suc n ≡ length xs = omega (arith, lt) in
    let begin : start + 0 ≡ start = omega arith in
    let first_is : slice_get xs start ≡ Some p = ap (slice_get xs) (sym begin) ∙ sym (get_behind start 0 xs) ∙ first in
    let begins : BeginsWith k (drop start xs) (suc n) p = rw many at goes p first_is in
    let ends : slice_get (drop start xs) (suc n) ≡ Some (k.at p (k.rank p + suc n)) → ⊥ = λ e.
    let within = slice_get_within xs (start + suc n) (k.at p (k.rank p + suc n)) (sym (get_behind start (suc n) xs) ∙ e) in
    omega (arith, within, place) in
    subst (λ (m : ℕ). IsFirstRun k (drop start xs) m) (sym many) (first_run k is (drop start xs) n p begins ends) p q first last_is

-- ---- the runs behind it

pub run_there : {A : Type 0} (k : Ranked A) (xs : List A) (start end : ℕ) (first last : A) → start < end → IsFirstRun k (drop start xs) (end - start)
    → slice_get xs start ≡ Some first → slice_get xs (end - 1) ≡ Some last → runs_of k (drop start xs) ≡ run first (k.rank last) ∷ runs_of k (drop end xs)
run_there {A = A} k xs start end first last lt is_first at_first at_last =
    let begin : start + 0 ≡ start = omega arith in
    let place : start + (end - start - 1) ≡ end - 1 = omega (arith, lt) in
    let behind : start + (end - start) ≡ end = omega (arith, lt) in
    is_first first last (get_behind start 0 xs ∙ ap (slice_get xs) begin ∙ at_first) (get_behind start (end - start - 1) xs ∙ ap (slice_get xs) place ∙ at_last)
    ∙ ap (λ (ys : List A). run first (k.rank last) ∷ runs_of k ys) (drop-drop (end - start) start xs ∙ ap (λ (n : ℕ). drop n xs) behind)

there_is : {A : Type 0} (n : ℕ) (xs : List A) → n < length xs → (x : A) × (slice_get xs n ≡ Some x)
there_is n [] lt = absurd (omega (arith, lt))
there_is zero (x ∷ xs) lt = (x, refl)
there_is (suc n) (x ∷ xs) lt = there_is n xs (omega (arith, lt))

-- behind the last item there are none
pub none_behind : {A : Type 0} (k : Ranked A) (xs : List A) (start : ℕ) → length xs ≤ start → runs_of k (drop start xs) ≡ []
unfolding runs_of
none_behind k xs start le = let none = drop_of_length-le xs le in rw none refl

-- with the run there are one more
pub run_counted : {A : Type 0} (k : Ranked A) (xs : List A) (start end : ℕ) → start < end → end ≤ length xs → IsFirstRun k (drop start xs) (end - start)
    → length (runs_of k (drop start xs)) ≡ suc (length (runs_of k (drop end xs)))
run_counted k xs start end lt le is_first =
    let first = there_is start xs (omega (arith, lt, le)) in
    let last = there_is (end - 1) xs (omega (arith, lt, le)) in
    ap length (run_there k xs start end first.0 last.0 lt is_first first.1 last.1)

-- with its bytes they take so many more
pub run_sized : {A : Type 0} (k : Ranked A) (spell : RankRun A → List ℕ) (xs : List A) (start end size : ℕ) (first : A) → start < end → end ≤ length xs → IsFirstRun k (drop start xs) (end - start)
    → slice_get xs start ≡ Some first → ((last : ℕ) → size ≡ length (spell (run first last)))
    → length (flat_map spell (runs_of k (drop start xs))) ≡ size + length (flat_map spell (runs_of k (drop end xs)))
run_sized {A = A} k spell xs start end size first lt le is_first at_first sized =
    let last = there_is (end - 1) xs (omega (arith, lt, le)) in
    let text = spell (run first (k.rank last.0)) in
    let others = flat_map spell (runs_of k (drop end xs)) in
    ap (λ (rs : List (RankRun A)). length (flat_map spell rs)) (run_there k xs start end first last.0 lt is_first at_first last.1)
    ∙ length-append text others
    ∙ ap (λ (n : ℕ). n + length others) (sym (sized (k.rank last.0)))

-- with its text they are written behind the others
pub run_put : {A : Type 0} (k : Ranked A) (spell : RankRun A → List ℕ) (xs : List A) (start end : ℕ) (first last : A) (out more total : List ℕ) → start < end → IsFirstRun k (drop start xs) (end - start)
    → slice_get xs start ≡ Some first → slice_get xs (end - 1) ≡ Some last → more ≡ out ++ spell (run first (k.rank last))
    → out ++ flat_map spell (runs_of k (drop start xs)) ≡ total → more ++ flat_map spell (runs_of k (drop end xs)) ≡ total
run_put {A = A} k spell xs start end first last out more total lt is_first at_first at_last put so_far =
    let text = spell (run first (k.rank last)) in
    let others = flat_map spell (runs_of k (drop end xs)) in
    ap (λ (t : List ℕ). t ++ others) put
    ∙ append_assoc out text others
    ∙ ap (λ (rs : List (RankRun A)). out ++ flat_map spell rs) (sym (run_there k xs start end first last lt is_first at_first at_last))
    ∙ so_far
