-- Entries into old fences of one signature, taken back.
use Rattle.std.proofs.Common.{◌≡◌, ℕ, cond, Option, Some, None, is_some, refl, sym, ap, ◌∙◌}
use Rattle.std.specs.FinMap.{nat_cmp-IsAntisymmetric}
use Rattle.std.specs.Cmp.{nat_cmp_total}
use Rattle.std.specs.Option.{unwrap_or}
use Rattle.pmg_value.proofs.RowLemmas.{insert_same}
use Rattle.std.specs.FinMap as finite
use Rattle.pmg_fence.specs.Tables.{Numbers, Fence, Series, no_fence}
use Rattle.pmg_fence.specs.Codes.{Instances}
use Rattle.pmg_fence.specs.TakenBack.{number_back, instances_back, series_back}
use Rattle.pmg_fence.specs.declared.fence.FenceUndo.TheVariants as fence_befores
use Rattle.pmg_fence.specs.declared.numbers.NumberUndo.{NumberUndo}
use Rattle.pmg_fence.specs.declared.series.SeriesUndo.{SeriesUndo}

abbrev pub series_with : Numbers → Instances → ℕ → Series
series_with counts fences top = record { counts = counts; fences = fences; top = top }

-- ---- an old instance

learned_back : (m : Instances) (k : ℕ) → instances_back m k (Some fence_befores.Learned) ≡ m
learned_back m k = by_there (finite.get m k) refl
  where
    by_there : (o : Option Fence) → finite.get m k ≡ o → cond (is_some o) (finite.insert m k (unwrap_or o no_fence)) m ≡ m
    by_there (Some x) e = insert_same nat_cmp_total nat_cmp-IsAntisymmetric m k x e
    by_there None e = refl

-- what a change of the counts alone is taken back by
abbrev nothing_more : Option NumberUndo → ℕ → SeriesUndo
nothing_more count top = record { count = count; fence = Some fence_befores.Learned; top = top }

-- a count, taken back
pub counted_back : (old put : Numbers) (fences : Instances) (top k : ℕ) (s : Series) (count : NumberUndo) (before : SeriesUndo) → number_back put count ≡ old → before ≡ nothing_more (Some count) top
    → series_with old fences top ≡ s → series_back (series_with put fences top) k before ≡ s
counted_back old put fences top k s count before back is view = ap (series_back (series_with put fences top) k) is ∙ (λ i. series_with (back i) (learned_back fences k i) top) ∙ view

-- and no change at all
pub same_back : (old : Numbers) (fences : Instances) (top k : ℕ) (s : Series) (before : SeriesUndo) → before ≡ nothing_more None top → series_with old fences top ≡ s → series_back s k before ≡ s
same_back old fences top k s before is view =
    ap (series_back s k) is ∙ ap (λ x. series_back x k (nothing_more None top)) (sym view) ∙ (λ i. series_with old (learned_back fences k i) top) ∙ view
