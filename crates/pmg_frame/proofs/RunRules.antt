-- Each list of items has one list of runs.
use Rattle.std.proofs.Common.{◌≡◌, ℕ, zero, suc, ◌+◌, ◌-◌, ◌<◌, ◌≤◌, nat_le, Bool, true, false, not, ◌&&◌, List, [], ◌∷◌, ◌++◌, length, None, IsTrue, refl, sym, ap, subst, ◌∙◌, arith, inl, inr}
use Rattle.std.specs.Bool.{Decides}
use Rattle.std.specs.List.{flat_map, list_all}
use Rattle.std.proofs.lemmas.Bool.{and_parts, and_from, leb-true, le-leb, not-true, not_from_false, cases_Bool}
use Rattle.std.proofs.lemmas.List.{append-nil}
use Rattle.pmg_value.specs.Lists.{leads, is_chain}
use Rattle.pmg_frame.specs.Runs.{Ranked, proc_ranks, local_ranks, RankRun, run, next_rank, line, items_of, with_item, runs_of, is_apart, AreRunsOf, HaveOneList}
use Rattle.pmg_frame.specs.RunReading.{last_or, is_new}
use Rattle.pmg_frame.proofs.SameLemmas.{same_procs, same_locals}

-- what makes ranks ranks
pub record IsRanked {A : Type 0} (k : Ranked A) : Type 0 where
  pub rank_at : (x : A) (n : ℕ) → k.rank (k.at x n) ≡ n
  pub at_at : (x : A) (m n : ℕ) → k.at (k.at x m) n ≡ k.at x n
  pub at_rank : (x : A) → k.at x (k.rank x) ≡ x
  pub same : (x y : A) → Decides (k.same x y) (x ≡ y)

pub proc_ranked : IsRanked proc_ranks
proc_ranked = record { rank_at = λ x n. refl; at_at = λ x m n. refl; at_rank = λ x. refl; same = same_procs }

pub local_ranked : IsRanked local_ranks
local_ranked = record { rank_at = λ x n. refl; at_at = λ x m n. refl; at_rank = λ x. refl; same = same_locals }

-- ---- the items of a run

-- a run of one item
pub items_of-one : {A : Type 0} (k : Ranked A) (x : A) → items_of k (run x (k.rank x)) ≡ x ∷ []
unfolding line
items_of-one k x = let one : suc (k.rank x) - k.rank x ≡ 1 = omega arith in rw one refl

-- a run of more begins with an item, and goes on with the next
pub items_of-more : {A : Type 0} (k : Ranked A) → IsRanked k → (x : A) (last : ℕ) → k.rank x < last → items_of k (run x last) ≡ x ∷ items_of k (run (next_rank k x) last)
unfolding line
items_of-more k is x last lt =
    let more : suc last - k.rank x ≡ suc (suc last - suc (k.rank x)) = omega arith in
    rw (more, is.rank_at x (suc (k.rank x))) refl

-- a run that is not empty has an item more than its ranks lie apart
pub items_of-line : {A : Type 0} (k : Ranked A) (r : RankRun A) → k.rank r.first ≤ r.last → items_of k r ≡ line k (suc (r.last - k.rank r.first)) r.first
items_of-line k r le = let more : suc r.last - k.rank r.first ≡ suc (r.last - k.rank r.first) = omega arith in rw more refl

pub length-line : {A : Type 0} (k : Ranked A) (n : ℕ) (x : A) → length (line k n x) ≡ n
unfolding line
length-line k zero x = refl
length-line k (suc n) x = ap suc (length-line k n (next_rank k x))

pub length-items_of : {A : Type 0} (k : Ranked A) (r : RankRun A) → length (items_of k r) ≡ suc r.last - k.rank r.first
length-items_of k r = length-line k (suc r.last - k.rank r.first) r.first

-- ---- the longest runs are runs

leads_alike : {A : Type 0} (k : Ranked A) (r s : RankRun A) (rs : List (RankRun A)) → k.at r.first (suc r.last) ≡ k.at s.first (suc s.last) → leads (is_apart k) r rs ≡ leads (is_apart k) s rs
leads_alike k r s [] e = refl
leads_alike {A = A} k r s (t ∷ ts) e = ap (λ (y : A). not (k.same y t.first) && leads (is_apart k) t ts) e

pub leads_chain : {A : Type 0} (R : A → A → Bool) (x : A) (xs : List A) → leads R x xs ≡ true → is_chain R xs ≡ true
leads_chain R x [] h = refl
leads_chain R x (y ∷ ys) h = (and_parts (R x y) (leads R y ys) h).1

joins_first : {A : Type 0} (k : Ranked A) → IsRanked k → (x : A) (r : RankRun A) (rs : List (RankRun A)) (xs : List A) → next_rank k x ≡ r.first → AreRunsOf k (r ∷ rs) xs → AreRunsOf k (run x r.last ∷ rs) (x ∷ xs)
joins_first {A = A} k is x r rs xs e are =
    let parts = and_parts (nat_le (k.rank r.first) r.last) (list_all (λ (s : RankRun A). nat_le (k.rank s.first) s.last) rs) are.some in
    let le : k.rank r.first ≤ r.last = leb-true (k.rank r.first) r.last parts.0 in
    let after : k.rank r.first ≡ suc (k.rank x) = ap k.rank (sym e) ∙ is.rank_at x (suc (k.rank x)) in
    let end : k.at x (suc r.last) ≡ k.at r.first (suc r.last) = sym (is.at_at x (suc (k.rank x)) (suc r.last)) ∙ ap (λ (y : A). k.at y (suc r.last)) e in
    let more = items_of-more k is x r.last (omega arith) in
    let same : items_of k (run (next_rank k x) r.last) ≡ items_of k r = ap (λ (y : A). items_of k (run y r.last)) e in
    record {
      some = and_from _ _ (le-leb (k.rank x) r.last (omega arith)) parts.1;
      apart = leads_alike k (run x r.last) r rs end ∙ are.apart;
      items = ap (λ (ys : List A). ys ++ flat_map (items_of k) rs) (more ∙ ap (λ (ys : List A). x ∷ ys) same) ∙ ap (λ (ys : List A). x ∷ ys) are.items;
    }

starts_apart : {A : Type 0} (k : Ranked A) (x : A) (r : RankRun A) (rs : List (RankRun A)) (xs : List A) → k.same (next_rank k x) r.first ≡ false → AreRunsOf k (r ∷ rs) xs → AreRunsOf k (run x (k.rank x) ∷ r ∷ rs) (x ∷ xs)
starts_apart {A = A} k x r rs xs ends are = record {
  some = and_from _ _ (le-leb (k.rank x) (k.rank x) (omega arith)) are.some;
  apart = and_from _ _ (not_from_false _ ends) are.apart;
  items = ap (λ (ys : List A). ys ++ flat_map (items_of k) (r ∷ rs)) (items_of-one k x) ∙ ap (λ (ys : List A). x ∷ ys) are.items;
}

pub with_item-runs : {A : Type 0} (k : Ranked A) → IsRanked k → (x : A) (rs : List (RankRun A)) (xs : List A) → AreRunsOf k rs xs → AreRunsOf k (with_item k x rs) (x ∷ xs)
with_item-runs {A = A} k is x [] xs are = record {
  some = and_from _ _ (le-leb (k.rank x) (k.rank x) (omega arith)) refl;
  apart = refl;
  items = ap (λ (ys : List A). ys ++ []) (items_of-one k x) ∙ ap (λ (ys : List A). x ∷ ys) are.items;
}
with_item-runs k is x (r ∷ rs) xs are =
    elim (cases_Bool (k.same (next_rank k x) r.first)) [
      | inl goes ↦ rw goes (joins_first k is x r rs xs ((is.same (next_rank k x) r.first).0 goes) are)
      | inr ends ↦ rw ends (starts_apart k x r rs xs ends are)
    ]

pub runs_of-are : {A : Type 0} (k : Ranked A) → IsRanked k → (xs : List A) → AreRunsOf k (runs_of k xs) xs
unfolding runs_of
runs_of-are k is [] = record { some = refl; apart = refl; items = refl }
runs_of-are k is (x ∷ xs) = with_item-runs k is x (runs_of k xs) xs (runs_of-are k is xs)

-- ---- and there are no others

item_apart : {A : Type 0} (k : Ranked A) (x : A) (rs : List (RankRun A)) → leads (is_apart k) (run x (k.rank x)) rs ≡ true → with_item k x rs ≡ run x (k.rank x) ∷ rs
item_apart k x [] apart = refl
item_apart k x (r ∷ rs) apart = let ends = not-true (k.same (next_rank k x) r.first) (and_parts (not (k.same (next_rank k x) r.first)) (leads (is_apart k) r rs) apart).0 in rw ends refl

-- the run of these items comes before the runs of those behind them
pub runs_of-line : {A : Type 0} (k : Ranked A) → IsRanked k → (n : ℕ) (x : A) (ys : List A) → leads (is_apart k) (run x (k.rank x + n)) (runs_of k ys) ≡ true
    → runs_of k (line k (suc n) x ++ ys) ≡ run x (k.rank x + n) ∷ runs_of k ys
unfolding runs_of line
runs_of-line {A = A} k is zero x ys apart =
    let none : k.rank x + 0 ≡ k.rank x = omega arith in
    rw none (item_apart k x (runs_of k ys) (rw none at apart))
runs_of-line {A = A} k is (suc n) x ys apart =
    let y = next_rank k x in
    let rank : k.rank y ≡ suc (k.rank x) = is.rank_at x (suc (k.rank x)) in
    let last : k.rank y + n ≡ k.rank x + suc n = omega arith in
    let end : k.at y (suc (k.rank y + n)) ≡ k.at x (suc (k.rank x + suc n)) = is.at_at x (suc (k.rank x)) (suc (k.rank y + n)) ∙ ap (λ (m : ℕ). k.at x (suc m)) last in
    let behind = runs_of-line k is n y ys (leads_alike k (run y (k.rank y + n)) (run x (k.rank x + suc n)) (runs_of k ys) end ∙ apart) in
    let goes : k.same y y ≡ true = (is.same y y).1 refl in
    ap (with_item k x) behind ∙ rw goes (ap (λ (m : ℕ). run x m ∷ runs_of k ys) last)

runs_of-first : {A : Type 0} (k : Ranked A) → IsRanked k → (r : RankRun A) (ys : List A) → k.rank r.first ≤ r.last → leads (is_apart k) r (runs_of k ys) ≡ true
    → runs_of k (items_of k r ++ ys) ≡ r ∷ runs_of k ys
runs_of-first {A = A} k is r ys le apart =
    let last : k.rank r.first + (r.last - k.rank r.first) ≡ r.last = omega arith in
    let parted : leads (is_apart k) (run r.first (k.rank r.first + (r.last - k.rank r.first))) (runs_of k ys) ≡ true = rw last apart in
    ap (λ (zs : List A). runs_of k (zs ++ ys)) (items_of-line k r le)
    ∙ runs_of-line k is (r.last - k.rank r.first) r.first ys parted
    ∙ ap (λ (m : ℕ). run r.first m ∷ runs_of k ys) last

pub runs_are_one : {A : Type 0} (k : Ranked A) → IsRanked k → (rs : List (RankRun A)) (xs : List A) → AreRunsOf k rs xs → rs ≡ runs_of k xs
unfolding runs_of
runs_are_one k is [] xs are = ap (runs_of k) are.items
runs_are_one {A = A} k is (r ∷ rs) xs are =
    let parts = and_parts (nat_le (k.rank r.first) r.last) (list_all (λ (s : RankRun A). nat_le (k.rank s.first) s.last) rs) are.some in
    let ys = flat_map (items_of k) rs in
    let behind = runs_are_one k is rs ys (record { some = parts.1; apart = leads_chain (is_apart k) r rs are.apart; items = refl }) in
    let apart : leads (is_apart k) r (runs_of k ys) ≡ true = subst (λ (ss : List (RankRun A)). leads (is_apart k) r ss ≡ true) behind are.apart in
    ap (λ (ss : List (RankRun A)). r ∷ ss) behind
    ∙ sym (runs_of-first k is r ys (leb-true (k.rank r.first) r.last parts.0) apart)
    ∙ ap (runs_of k) are.items

pub run_rules : {A : Type 0} (k : Ranked A) → IsRanked k → HaveOneList k
run_rules k is xs = (runs_of-are k is xs, λ rs are. runs_are_one k is rs xs are)

-- ---- a run more

with_item-before : {A : Type 0} (k : Ranked A) (x : A) (r : RankRun A) (rs ts : List (RankRun A)) → with_item k x (r ∷ (rs ++ ts)) ≡ with_item k x (r ∷ rs) ++ ts
with_item-before k x r rs ts =
    elim (cases_Bool (k.same (next_rank k x) r.first)) [
      | inl goes ↦ rw goes refl
      | inr ends ↦ rw ends refl
    ]

with_items-before : {A : Type 0} (k : Ranked A) (x y : A) (rs ts : List (RankRun A)) → with_item k x (with_item k y rs ++ ts) ≡ with_item k x (with_item k y rs) ++ ts
with_items-before k x y [] ts = with_item-before k x (run y (k.rank y)) [] ts
with_items-before k x y (r ∷ rs) ts =
    elim (cases_Bool (k.same (next_rank k y) r.first)) [
      | inl goes ↦ rw goes (with_item-before k x (run y r.last) rs ts)
      | inr ends ↦ rw ends (with_item-before k x (run y (k.rank y)) (r ∷ rs) ts)
    ]

-- a run that does not go on from the last item is one more run
pub runs_of-push : {A : Type 0} (k : Ranked A) → IsRanked k → (xs : List A) (r : RankRun A) → k.rank r.first ≤ r.last → IsTrue (is_new k (last_or None xs) r.first)
    → runs_of k (xs ++ items_of k r) ≡ runs_of k xs ++ r ∷ []
unfolding runs_of
runs_of-push {A = A} k is [] r le new = ap (runs_of k) (sym (append-nil (items_of k r))) ∙ runs_of-first k is r [] le refl
runs_of-push k is (x ∷ []) r le new =
    let ends = not-true (k.same (next_rank k x) r.first) new in
    ap (with_item k x) (runs_of-push k is [] r le refl) ∙ rw ends refl
runs_of-push k is (x ∷ y ∷ ys) r le new =
    ap (with_item k x) (runs_of-push k is (y ∷ ys) r le new) ∙ with_items-before k x y (runs_of k ys) (r ∷ [])
