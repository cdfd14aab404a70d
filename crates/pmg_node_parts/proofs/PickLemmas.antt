-- What some rows of a map have, as a list.
use Rattle.std.proofs.Common.{◌≡◌, Bool, true, false, ◌||◌, cond, List, [], ◌∷◌, ◌++◌, Option, Some, None, is_some, refl, sym, ap, ◌∙◌}
use Rattle.std.specs.FinMap.{IsAntisymmetric}
use Rattle.std.specs.BTreeMap.{is_at}
use Rattle.std.specs.Cmp.{Equal-is}
use Rattle.std.specs.List.{flat_map, list_any, AllByRecursion}
use Rattle.std.specs.List.Sorted.{IsStrictlySortedBy}
use Rattle.std.specs.Map.{keys_of}
use Rattle.std.specs.Option.{option_map, option_to_list}
use Rattle.std.specs.Ordering.{eq_by_cmp, is_eq}
use Rattle.std.specs.declared.cmp.Ordering.{Ordering}
use Rattle.std.specs.declared.cmp.Ordering.TheVariants.{Less}
use Rattle.pmg_value.specs.Rows.{AreRising}
use Rattle.pmg_value.proofs.RowLemmas.{at_key}

-- what comes of an option that something is made of
abbrev pub picked : {X A : Type 0} → (X → Option A) → Option X → Option A
picked h None = None
picked h (Some x) = h x

-- what is made of a row, under its key
abbrev pub row_of : {K X A : Type 0} → (X → Option A) → K × X → List (K × A)
row_of h e = option_to_list (option_map (λ a. (e.0, a)) (h e.1))

-- the rows of which something is made
abbrev pub picks : {K X A : Type 0} → (X → Option A) → List (K × X) → List (K × A)
picks h rows = flat_map (row_of h) rows

-- whether a key is among those of rows
pub any_key : {K X : Type 0} (R : K → K → Ordering) (q : K) (rows : List (K × X)) → list_any (eq_by_cmp R q) (keys_of rows) ≡ is_some (at_key R q rows)
any_key R q [] = refl
any_key R q (e ∷ rows) =
    elim (is_at (R q) e.0) as (λ b. (b || list_any (eq_by_cmp R q) (keys_of rows)) ≡ is_some (cond b (Some e.1) (at_key R q rows))) [
      | true ↦ refl
      | false ↦ any_key R q rows
    ]

module _ {K X A : Type 0} (R : K → K → Ordering) (h : X → Option A) where
  below_picks : (k : K) (rows : List (K × X)) → AllByRecursion (λ y. R k y ≡ Less) (keys_of rows) → AllByRecursion (λ y. R k y ≡ Less) (keys_of (picks h rows))
  below_picks k [] all = tt
  below_picks k (e ∷ rows) all = by_made (h e.1) (below_picks k rows all.1)
    where
      by_made : (o : Option A) → AllByRecursion (λ y. R k y ≡ Less) (keys_of (picks h rows))
          → AllByRecursion (λ y. R k y ≡ Less) (keys_of (option_to_list (option_map (λ a. (e.0, a)) o) ++ picks h rows))
      by_made None rest = rest
      by_made (Some a) rest = (all.0, rest)

  -- they rise where the rows do
  pub picks_rise : (rows : List (K × X)) → AreRising R rows → AreRising R (picks h rows)
  unfolding IsStrictlySortedBy
  picks_rise [] rising = tt
  picks_rise (e ∷ rows) rising = by_made (h e.1) (picks_rise rows rising.1)
    where
      by_made : (o : Option A) → AreRising R (picks h rows) → AreRising R (option_to_list (option_map (λ a. (e.0, a)) o) ++ picks h rows)
      by_made None rest = rest
      by_made (Some a) rest = (below_picks e.0 rows rising.0, rest)

  none_above : (k q : K) (rows : List (K × X)) → (q ≡ k) → AllByRecursion (λ y. R k y ≡ Less) (keys_of rows) → at_key R q rows ≡ None
  none_above k q [] same all = refl
  none_above k q (e ∷ rows) same all =
      ap (λ (c : Ordering). cond (is_eq c) (Some e.1) (at_key R q rows)) (ap (λ x. R x e.0) same ∙ all.0) ∙ none_above k q rows same all.1

  -- what stands under a key is what is made of what stood there
  pub at_picks : IsAntisymmetric R → (rows : List (K × X)) (q : K) → AreRising R rows → at_key R q (picks h rows) ≡ picked h (at_key R q rows)
  unfolding IsStrictlySortedBy
  at_picks exact [] q rising = refl
  at_picks exact (e ∷ rows) q rising = by_made (h e.1) refl (is_at (R q) e.0) refl (at_picks exact rows q rising.1)
    where
      by_made : (o : Option A) → h e.1 ≡ o → (b : Bool) → is_at (R q) e.0 ≡ b → at_key R q (picks h rows) ≡ picked h (at_key R q rows)
          → at_key R q (option_to_list (option_map (λ a. (e.0, a)) o) ++ picks h rows) ≡ picked h (cond (is_at (R q) e.0) (Some e.1) (at_key R q rows))
      by_made (Some a) made true t rest =
          ap (λ (b : Bool). cond b (Some a) (at_key R q (picks h rows))) t ∙ sym made ∙ ap (λ (b : Bool). picked h (cond b (Some e.1) (at_key R q rows))) (sym t)
      by_made (Some a) made false t rest =
          ap (λ (b : Bool). cond b (Some a) (at_key R q (picks h rows))) t ∙ rest ∙ ap (λ (b : Bool). picked h (cond b (Some e.1) (at_key R q rows))) (sym t)
      by_made None made true t rest =
          rest
          ∙ ap (picked h) (none_above e.0 q rows (exact q e.0 ((Equal-is _).0 t)) rising.0)
          ∙ sym made ∙ ap (λ (b : Bool). picked h (cond b (Some e.1) (at_key R q rows))) (sym t)
      by_made None made false t rest = rest ∙ ap (λ (b : Bool). picked h (cond b (Some e.1) (at_key R q rows))) (sym t)
