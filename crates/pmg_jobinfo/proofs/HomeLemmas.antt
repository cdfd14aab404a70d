-- Ranks and counts, by one more rank.
use Rattle.std.proofs.Common.{◌≡◌, ℕ, zero, suc, ◌+◌, Bool, true, false, cond, List, [], ◌∷◌, ◌++◌, refl, ap, ◌∙◌, arith}
use Rattle.std.specs.List.{count_by, filter, list_any, range_with_len}
use Rattle.std.specs.Prelude.{◌==◌}
use Rattle.std.proofs.lemmas.List.{append-nil}
use Rattle.std.proofs.lemmas.List.Sums.{sum_by_push}
use Rattle.std.proofs.lemmas.List.Elements.{filter-append}
use Rattle.pmg_jobinfo.specs.Expansion.{ranks}
use Rattle.pmg_jobinfo.specs.Reserved.{count_hosts}

pub range_more : (a n : ℕ) → range_with_len a (n + 1) ≡ range_with_len a n ++ (a + n) ∷ []
range_more a zero = ap (λ (k : ℕ). k ∷ []) (let e : a ≡ a + 0 = omega arith in e)
range_more a (suc n) =
    let one : suc n + 1 ≡ suc (n + 1) = omega arith in
    let next : a + 1 + n ≡ a + suc n = omega arith in
    ap (range_with_len a) one ∙ ap (λ (ks : List ℕ). a ∷ ks) (range_more (a + 1) n ∙ ap (λ (k : ℕ). range_with_len (a + 1) n ++ k ∷ []) next)

pub ranks_more : (n : ℕ) → ranks (n + 1) ≡ ranks n ++ n ∷ []
ranks_more n = range_more 0 n ∙ ap (λ (k : ℕ). ranks n ++ k ∷ []) (let e : 0 + n ≡ n = omega arith in e)

-- a count over one more rank
pub count_more : (p : ℕ → Bool) (n : ℕ) → count_by p (ranks (n + 1)) ≡ count_by p (ranks n) + cond (p n) 1 0
count_more p n = ap (count_by p) (ranks_more n) ∙ sum_by_push (λ x. cond (p x) 1 0) (ranks n) n

filter_one : (p : ℕ → Bool) (n : ℕ) → filter p (n ∷ []) ≡ cond (p n) (n ∷ []) []
filter_one p n = elim (p n) as (λ b. cond b (n ∷ []) [] ≡ cond b (n ∷ []) []) [ true ↦ refl | false ↦ refl ]

-- a choice among one more rank
pub filter_more : (p : ℕ → Bool) (n : ℕ) → filter p (ranks (n + 1)) ≡ filter p (ranks n) ++ cond (p n) (n ∷ []) []
filter_more p n = ap (filter p) (ranks_more n) ∙ filter-append p (ranks n) (n ∷ []) ∙ ap (λ (ks : List ℕ). filter p (ranks n) ++ ks) (filter_one p n)

pub rank_taken : (p : ℕ → Bool) (n : ℕ) → p n ≡ true → filter p (ranks (n + 1)) ≡ filter p (ranks n) ++ n ∷ []
rank_taken p n t = filter_more p n ∙ ap (λ (b : Bool). filter p (ranks n) ++ cond b (n ∷ []) []) t

pub rank_left : (p : ℕ → Bool) (n : ℕ) → p n ≡ false → filter p (ranks (n + 1)) ≡ filter p (ranks n)
rank_left p n t = filter_more p n ∙ ap (λ (b : Bool). filter p (ranks n) ++ cond b (n ∷ []) []) t ∙ append-nil (filter p (ranks n))

pub node_counted : (n : ℕ) (homes : List ℕ) → list_any (λ home. home == n) homes ≡ true → count_hosts (n + 1) homes ≡ count_hosts n homes + 1
node_counted n homes t = count_more (λ node. list_any (λ home. home == node) homes) n ∙ ap (λ (b : Bool). count_hosts n homes + cond b 1 0) t

pub node_passed : (n : ℕ) (homes : List ℕ) → list_any (λ home. home == n) homes ≡ false → count_hosts (n + 1) homes ≡ count_hosts n homes
node_passed n homes t = count_more (λ node. list_any (λ home. home == node) homes) n ∙ ap (λ (b : Bool). count_hosts n homes + cond b 1 0) t ∙ (let e : count_hosts n homes + 0 ≡ count_hosts n homes = omega arith in e)
