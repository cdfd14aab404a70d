-- Changes of a table that are taken back.
use Rattle.std.proofs.Common.{◌≡◌, Option, Some, None, sym, ap, ◌∙◌}
use Rattle.std.specs.FinMap as finite
use Rattle.std.specs.FinMap.{IsAntisymmetric}
use Rattle.std.specs.Cmp.{IsTotalOrder}
use Rattle.std.specs.Option.{unwrap_or}
use Rattle.std.specs.declared.cmp.Ordering.{Ordering}
use Rattle.pmg_value.specs.Rows.{changed_at}
use Rattle.pmg_value.proofs.RowLemmas.{inserted_back, remove_inserted}
use Rattle.pmg_fence.proofs.Trees.{get_put}

module _ {K X : Type 0} {R : K → K → Ordering} (o : IsTotalOrder R) (exact : IsAntisymmetric R) where
  -- what was there and was changed is changed back
  pub there_back : (m new : finite.FinMap R X) (k : K) (x y d : X) (undo : X → X) → finite.get m k ≡ Some x → new ≡ finite.insert m k y → undo y ≡ x
      → changed_at new k (undo (unwrap_or (finite.get new k) d)) ≡ m
  there_back m new k x y d undo e is back =
      ap (λ (t : finite.FinMap R X). changed_at t k (undo (unwrap_or (finite.get t k) d))) is
      ∙ ap (λ (v : Option X). changed_at (finite.insert m k y) k (undo (unwrap_or v d))) (get_put o exact m k y)
      ∙ ap (changed_at (finite.insert m k y) k) back
      ∙ inserted_back o exact m k y (Some x) (sym e)

  -- what was not there is taken out
  pub gone_back : (m new : finite.FinMap R X) (k : K) (y : X) → finite.get m k ≡ None → new ≡ finite.insert m k y → finite.remove new k ≡ m
  gone_back m new k y e is = ap (λ (t : finite.FinMap R X). finite.remove t k) is ∙ remove_inserted o exact m k y e

  -- what is there, where it is changed back
  pub undone_there : (m new : finite.FinMap R X) (k : K) (x y d : X) (undo : X → X) → finite.get m k ≡ Some x → y ≡ undo x → new ≡ changed_at m k y
      → new ≡ changed_at m k (undo (unwrap_or (finite.get m k) d))
  undone_there m new k x y d undo e back is = is ∙ ap (changed_at m k) (back ∙ ap (λ (v : Option X). undo (unwrap_or v d)) (sym e))
