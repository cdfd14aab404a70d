-- The first run of processes that rise: one that stands as far behind the first as its rank is, is of its run, and so are those between.
use Rattle.std.proofs.Common.{◌≡◌, ℕ, zero, suc, ◌+◌, ◌-◌, ◌≤◌, List, [], ◌∷◌, ◌++◌, length, drop, Some, refl, sym, ap, ◌∙◌, arith}
use Rattle.std.proofs.Math.ListN.{drop_of_length-le}
use Rattle.std.proofs.lemmas.List.{append-nil}
use Rattle.std.specs.List.{slice_get}
use Rattle.std.specs.List.Sorted.{IsStrictlySortedBy}
use Rattle.pmg_value.specs.Process.{proc_cmp}
use Rattle.pmg_value.specs.declared.process.Proc.{Proc}
use Rattle.pmg_frame.specs.Runs.{proc_ranks, line, IsFirstRun}
use Rattle.pmg_frame.proofs.Among.{at_rank, next_in_run}
use Rattle.pmg_frame.proofs.RunFronts.{BeginsWith, first_run}
use Rattle.pmg_frame.proofs.RunRules.{proc_ranked}

begins_behind : (n : ℕ) (p : Proc) (ps : List Proc) → IsStrictlySortedBy proc_cmp (p ∷ ps) → slice_get (p ∷ ps) n ≡ Some (at_rank p (p.rank + n)) → BeginsWith proc_ranks (p ∷ ps) (suc n) p
unfolding IsStrictlySortedBy line
begins_behind zero p ps rise h = refl
begins_behind (suc n) p [] rise h = absurd cc
begins_behind (suc n) p (q ∷ qs) rise h =
    let next = next_in_run n p q qs rise h in
    let others = begins_behind n q qs rise.1 next.1 in
    ap (λ (ps : List Proc). p ∷ ps) (others ∙ ap (λ (x : Proc). line proc_ranks (suc n) x ++ drop (suc n) (q ∷ qs)) next.0)

pub begins_far : (n : ℕ) (p : Proc) (ps : List Proc) → IsStrictlySortedBy proc_cmp ps → slice_get ps 0 ≡ Some p → slice_get ps n ≡ Some (at_rank p (p.rank + n)) → BeginsWith proc_ranks ps (suc n) p
begins_far n p [] rise first h = absurd cc
begins_far n p (q ∷ qs) rise first h =
    let same : q ≡ p = cc in
    let there : slice_get (q ∷ qs) n ≡ Some (at_rank q (q.rank + n)) = h ∙ ap (λ (x : Proc). Some (at_rank x (x.rank + n))) (sym same) in
    begins_behind n q qs rise there ∙ ap (λ (x : Proc). line proc_ranks (suc n) x ++ drop (suc n) (q ∷ qs)) same

-- two looks tell how many processes the first run has
pub first_far : (n : ℕ) (p : Proc) (ps : List Proc) → IsStrictlySortedBy proc_cmp ps → slice_get ps 0 ≡ Some p → slice_get ps n ≡ Some (at_rank p (p.rank + n))
    → (slice_get ps (suc n) ≡ Some (at_rank p (p.rank + suc n)) → ⊥) → IsFirstRun proc_ranks ps (suc n)
first_far n p ps rise first there ends = first_run proc_ranks proc_ranked ps n p (begins_far n p ps rise first there) ends

-- processes that rise are one run from the first on, where the last one stands so far behind it
pub run_alone : (p : Proc) (ps : List Proc) → 1 ≤ length ps → IsStrictlySortedBy proc_cmp ps → slice_get ps 0 ≡ Some p → slice_get ps (length ps - 1) ≡ Some (at_rank p (p.rank + (length ps - 1)))
    → ps ≡ line proc_ranks (length ps) p
run_alone p ps some rise first there =
    let len : suc (length ps - 1) ≡ length ps = omega (arith, some) in
    let none : drop (length ps) ps ≡ [] = drop_of_length-le ps (omega arith) in
    begins_far (length ps - 1) p ps rise first there
    ∙ rw len (rw none (append-nil (line proc_ranks (length ps) p)))

-- what is left of processes that rise does so
pub rising_drop : (n : ℕ) (ps : List Proc) → IsStrictlySortedBy proc_cmp ps → IsStrictlySortedBy proc_cmp (drop n ps)
unfolding IsStrictlySortedBy
rising_drop zero ps rise = rise
rising_drop (suc n) [] rise = rise
rising_drop (suc n) (p ∷ ps) rise = rising_drop n ps rise.1
