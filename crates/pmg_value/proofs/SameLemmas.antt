-- Tests of sameness.
use Rattle.std.proofs.Common.{◌≡◌, true, refl, sym, ap, ◌∙◌}
use Rattle.std.specs.Bool.{Decides}
use Rattle.std.specs.Cmp.{IsTotalOrder}
use Rattle.std.specs.Ordering.{is_eq, eq_by_cmp}
use Rattle.std.specs.declared.cmp.Ordering.{Ordering}
use Rattle.std.specs.declared.cmp.Ordering.TheVariants.{Less, Equal, Greater}
use Rattle.std.proofs.lemmas.Cmp.{tied_itself}

is_equal : (r : Ordering) → is_eq r ≡ true → r ≡ Equal
is_equal Less h = absurd cc
is_equal Equal h = refl
is_equal Greater h = absurd cc

-- an order that is exact tells whether two things are one
pub by_cmp : {K : Type 0} (R : K → K → Ordering) → IsTotalOrder R → ((x y : K) → R x y ≡ Equal → x ≡ y) → (x y : K) → Decides (eq_by_cmp R x y) (x ≡ y)
by_cmp R o exact x y = (
  λ h. exact x y (is_equal (R x y) h),
  λ e. ap (λ z. is_eq (R x z)) (sym e) ∙ ap is_eq (tied_itself o x),
)
