-- A name that is there is learned again, which changes nothing.
use Rattle.std.proofs.Common.{◌≡◌, ◌≤◌, ℕ, suc, Bool, true, false, nat_lt, not, cond, Option, Some, None, is_some, refl, sym, ap, subst, ◌∙◌, arith}
use Rattle.std.specs.FinMap as finite
use Rattle.std.specs.FinMap.{nat_cmp-IsAntisymmetric}
use Rattle.std.specs.Cmp.{nat_cmp_total}
use Rattle.std.specs.Option.{unwrap_or}
use Rattle.std.proofs.lemmas.Bool.Decides.{nat_tests}
use Rattle.pmg_value.specs.Signatures.{Signature, FenceName}
use Rattle.pmg_value.proofs.RowLemmas.{insert_same}
use Rattle.pmg_frame.specs.FenceOrder.{signature_total}
use Rattle.pmg_frame.proofs.FenceOrderLemmas.{signatures_exact}
use Rattle.pmg_fence.specs.Changes.{greater_of, fence_placed, series_kept, forgotten, learned}
use Rattle.pmg_fence.specs.Codes.{Instances}
use Rattle.pmg_fence.specs.Tables.{Fence, Series, Fences, fence_of, no_fence, no_series, series_at, has_name, is_old, fence_at}
use Rattle.pmg_node_model.specs.Kept.{HasTwo}
use Rattle.pmg_node_model.proofs.ChoosingNews.{keyed}

no_greater : (m n : ℕ) → n ≤ m → greater_of m n ≡ m
no_greater m n le = by_test (nat_lt m n) refl
  where
    by_test : (b : Bool) → nat_lt m n ≡ b → cond b n m ≡ m
    by_test true below = absurd (grind (arith, nat_tests))
    by_test false other = refl

abbrev nothing : Option Fence
nothing = None

same_none : (b : Bool) → cond b nothing None ≡ None
same_none true = refl
same_none false = refl

-- where no instance that is there is below the two, all are kept
all_kept : (s : Series) → ((i : ℕ) → is_some (finite.get s.fences i) ≡ true → nat_lt (suc i) s.top ≡ false) → series_kept s ≡ s
all_kept s young =
    ap (λ (m : Instances). record { counts = s.counts; fences = m; top = s.top })
    (finite.same_map nat_cmp_total nat_cmp-IsAntisymmetric (series_kept s).fences s.fences (λ i.
    finite.get-retain_keys s.fences (λ k. not (nat_lt (suc k) s.top)) i (λ k e. ap (λ j. not (nat_lt (suc j) s.top)) (sym (nat_cmp-IsAntisymmetric i k e)))
    ∙ by_there i (finite.get s.fences i) (young i)))
  where
    by_there : (i : ℕ) (o : Option Fence) → (is_some o ≡ true → nat_lt (suc i) s.top ≡ false) → cond (not (nat_lt (suc i) s.top)) o None ≡ o
    by_there i None kept = same_none (not (nat_lt (suc i) s.top))
    by_there i (Some x) kept = ap (λ b. cond (not b) (Some x) None) (kept refl)

-- a table that has no more than two fences of a signature forgets nothing
pub forgets_none : (t : Fences) (g : Signature) → HasTwo t → forgotten t g ≡ t
unfolding forgotten has_name series_at is_old
forgets_none t g two = λ i. record { series = by_series (finite.get t.series g) refl i; ends = t.ends }
  where
    by_series : (o : Option Series) → finite.get t.series g ≡ o → cond (is_some o) (finite.insert t.series g (series_kept (unwrap_or o no_series))) t.series ≡ t.series
    by_series None none = refl
    by_series (Some s) some =
        let series : unwrap_or (finite.get t.series g) no_series ≡ s = ap (λ o. unwrap_or o no_series) some in
        ap (finite.insert t.series g) (all_kept s (λ i there.
        ap (λ (x : Series). nat_lt (suc i) x.top) (sym series) ∙ (two (fence_of g i) (ap (λ (x : Series). is_some (finite.get x.fences i)) series ∙ there)).0))
        ∙ insert_same signature_total signatures_exact t.series g s some

-- what is known of a fence whose name is there is placed again
placed_again : (t : Fences) (f : FenceName) → HasTwo t → has_name t f ≡ true → fence_placed t f (fence_at t f) (series_at t f.signature).counts ≡ t
unfolding fence_placed has_name series_at fence_at
placed_again t f two there =
    let found = keyed f.signature f.instance (finite.get t.series f.signature) there in
    let s = found.0 in
    let rows : finite.insert s.fences f.instance (unwrap_or (finite.get s.fences f.instance) no_fence) ≡ s.fences =
    ap (λ o. finite.insert s.fences f.instance (unwrap_or o no_fence)) found.3
    ∙ insert_same nat_cmp_total nat_cmp-IsAntisymmetric s.fences f.instance found.2 found.3 in
    let top : greater_of s.top f.instance ≡ s.top = no_greater s.top f.instance (subst (λ n. f.instance ≤ n) (ap (λ o. (unwrap_or o no_series).top) found.1) (two f there).1) in
    let all =
    ap
    (λ o. let x = unwrap_or o no_series in
    finite.insert t.series f.signature (record {
      counts = x.counts;
      fences = finite.insert x.fences f.instance (unwrap_or (finite.get x.fences f.instance) no_fence);
      top = greater_of x.top f.instance;
    }))
    found.1
    ∙ (λ i. finite.insert t.series f.signature (record { counts = s.counts; fences = rows i; top = top i }))
    ∙ insert_same signature_total signatures_exact t.series f.signature s found.1 in
    λ i. record { series = all i; ends = t.ends }

pub learned_again : (t : Fences) (f : FenceName) → HasTwo t → has_name t f ≡ true → learned t f ≡ t
learned_again t f two there =
    ap (λ b. cond b t (forgotten (fence_placed t f (fence_at t f) (series_at t f.signature).counts) f.signature)) (two f there).0
    ∙ ap (λ x. forgotten x f.signature) (placed_again t f two there)
    ∙ forgets_none t f.signature two
