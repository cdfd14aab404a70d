-- Trees of places, without those that are empty.
use Rattle.std.proofs.Common.{List, [], ◌∷◌, ◌≡◌, true, false, cond, map, refl, ap, ◌∙◌}
use Rattle.std.specs.Prelude.{Option, Some, None}
use Rattle.std.specs.Option.{option_map}
use Rattle.std.specs.List.{AllByRecursion}
use Rattle.std.specs.List.Sorted.{IsStrictlySortedBy}
use Rattle.std.specs.Cmp.{Equal-is}
use Rattle.std.specs.Ordering.{is_eq}
use Rattle.std.specs.declared.cmp.Ordering.{Ordering}
use Rattle.std.specs.declared.cmp.Ordering.TheVariants.{Less}
use Rattle.std.specs.BTreeMap.{is_at}
use Rattle.std.specs.Map.{lookup, keys_of}
use Rattle.std.specs.FinMap.Entries.{find}
use Rattle.std.proofs.lemmas.Map.Lookups.{CmpEqualImpliesEq}
use Rattle.pmg_join.specs.Places.{placed}
use Rattle.pmg_store.specs.Tables.{filled}

module _ {K V X : Type 0} (f : V → X) where
  all_filled : (P : K → Type 0) (es : List (K × Option V)) → AllByRecursion P (keys_of es) → AllByRecursion P (map (λ e. e.0) (filled f es))
  all_filled P [] all = tt
  all_filled P ((k, None) ∷ es) all = all_filled P es all.1
  all_filled P ((k, Some v) ∷ es) all = (all.0, all_filled P es all.1)

module _ {K V : Type 0} (R : K → K → Ordering) where
  none_above : (k : K) (es : List (K × Option V)) → AllByRecursion (λ y. R k y ≡ Less) (keys_of es) → lookup (is_at (R k)) es ≡ None
  none_above k [] all = refl
  none_above k (e ∷ es) all = ap (λ c. cond (is_eq c) (Some e.1) (lookup (is_at (R k)) es)) all.0 ∙ none_above k es all.1

module _ {K V X : Type 0} (R : K → K → Ordering) (f : V → X) where
  pub sorted_filled : (es : List (K × Option V)) → IsStrictlySortedBy R (keys_of es) → IsStrictlySortedBy R (map (λ e. e.0) (filled f es))
  unfolding IsStrictlySortedBy
  sorted_filled [] sorted = tt
  sorted_filled ((k, None) ∷ es) sorted = sorted_filled es sorted.1
  sorted_filled ((k, Some v) ∷ es) sorted = (all_filled f (λ y. R k y ≡ Less) es sorted.0, sorted_filled es sorted.1)

  pub find-filled : CmpEqualImpliesEq R → (es : List (K × Option V)) → IsStrictlySortedBy R (keys_of es) → (q : K)
      → find R q (filled f es) ≡ option_map f (placed (lookup (is_at (R q)) es))
  unfolding IsStrictlySortedBy
  find-filled exact [] sorted q = refl
  find-filled exact ((k, Some v) ∷ es) sorted q =
      elim (is_eq (R q k)) as (λ b. cond b (Some (f v)) (find R q (filled f es)) ≡ option_map f (placed (cond b (Some (Some v)) (lookup (is_at (R q)) es)))) [
        | true ↦ refl
        | false ↦ find-filled exact es sorted.1 q
      ]
  find-filled exact ((k, None) ∷ es) sorted q =
      elim (is_eq (R q k)) as (λ b. is_eq (R q k) ≡ b → find R q (filled f es) ≡ option_map f (placed (cond b (Some None) (lookup (is_at (R q)) es)))) [
        | true ↦ λ t.
            let same : q ≡ k = exact q k ((Equal-is _).0 t) in
            find-filled exact es sorted.1 q ∙ ap (λ (o : Option (Option V)). option_map f (placed o)) (ap (λ p. lookup (is_at (R p)) es) same ∙ none_above R k es sorted.0)
        | false ↦ λ t. find-filled exact es sorted.1 q
      ] refl
