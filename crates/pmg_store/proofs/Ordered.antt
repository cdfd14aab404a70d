-- A list in the order of its keys that answers as a finite map does is that map's list.
use Rattle.std.proofs.Common.{List, [], ◌∷◌, ◌≡◌, true, false, cond, map, refl, sym, ap, subst, ◌∙◌}
use Rattle.std.specs.Prelude.{Option, Some, None}
use Rattle.std.specs.Cmp.{IsTotalOrder}
use Rattle.std.specs.List.Sorted.{IsStrictlySortedBy}
use Rattle.std.specs.Ordering.{eq_by_cmp, is_lt}
use Rattle.std.specs.declared.cmp.Ordering.{Ordering}
use Rattle.std.specs.declared.cmp.Ordering.TheVariants.{Less}
use Rattle.std.specs.FinMap as finite
use Rattle.std.specs.FinMap.Entries.{find, below_all, is_sorted}
use Rattle.std.specs.List.{AllByRecursion}
use Rattle.std.specs.Option.{option_map}
use Rattle.std.specs.Prelude.{is_some}
use lib.Dec.{T}
use Rattle.pmg_value.proofs.SetOrder.{both, parts_of}

module _ {K X : Type 0} {R : K → K → Ordering} (o : IsTotalOrder R) (exact : finite.IsAntisymmetric R) where
  pub entries_are : (m : finite.FinMap R X) (es : List (K × X)) → T (is_sorted R es) → ((q : K) → finite.get m q ≡ find R q es) → finite.entries m ≡ es
  entries_are m es sorted same =
      ap finite.entries (finite.same_map o exact m (finite.from_sorted es) (λ q. same q ∙ sym (finite.get-from_sorted R es q sorted)))
      ∙ finite.entries-from_sorted R es sorted

-- ---- tests and facts of order

abbrev mark : {X : Type 0} → X → Unit {0}
mark x = tt

module _ {K X : Type 0} (R : K → K → Ordering) where
  below_from : (k : K) (es : List (K × X)) → AllByRecursion (λ y. R k y ≡ Less) (map (λ e. e.0) es) → T (below_all R k es)
  below_from k [] h = tt
  below_from k (e ∷ es) h = both _ _ (subst (λ r. T (is_lt r)) (sym h.0) tt) (below_from k es h.1)

  pub sorted_from : (es : List (K × X)) → IsStrictlySortedBy R (map (λ e. e.0) es) → T (is_sorted R es)
  unfolding IsStrictlySortedBy
  sorted_from [] h = tt
  sorted_from (e ∷ es) h = both _ _ (below_from e.0 es h.0) (sorted_from es h.1)

  -- the keys alone, as entries
  marks : List (K × X) → List (K × Unit {0})
  marks [] = []
  marks (e ∷ es) = (e.0, tt) ∷ marks es

  marks_below : (k : K) (es : List (K × X)) → T (below_all R k es) → T (below_all R k (marks es))
  unfolding marks
  marks_below k [] h = tt
  marks_below k (e ∷ es) h = let p = parts_of (is_lt (R k e.0)) (below_all R k es) h in both _ _ p.0 (marks_below k es p.1)

  marks_sorted : (es : List (K × X)) → T (is_sorted R es) → T (is_sorted R (marks es))
  unfolding marks
  marks_sorted [] h = tt
  marks_sorted (e ∷ es) h = let p = parts_of (below_all R e.0 es) (is_sorted R es) h in both _ _ (marks_below e.0 es p.0) (marks_sorted es p.1)

  marks_keys : (es : List (K × X)) → map (λ e. e.0) (marks es) ≡ map (λ e. e.0) es
  unfolding marks
  marks_keys [] = refl
  marks_keys (e ∷ es) = ap (λ ks. e.0 ∷ ks) (marks_keys es)

  find-marks : (q : K) (es : List (K × X)) → find R q (marks es) ≡ option_map mark (find R q es)
  unfolding marks
  find-marks q [] = refl
  find-marks q (e ∷ es) = elim (eq_by_cmp R q e.0) as (λ b. cond b (Some tt) (find R q (marks es)) ≡ option_map mark (cond b (Some e.1) (find R q es))) [ true ↦ refl | false ↦ find-marks q es ]

units : (a b : Option (Unit {0})) → is_some a ≡ is_some b → a ≡ b
units None None e = refl
units (Some x) (Some y) e = refl
units None (Some y) e = absurd cc
units (Some x) None e = absurd cc

is_some-marked : {X : Type 0} (o : Option X) → is_some (option_map mark o) ≡ is_some o
is_some-marked None = refl
is_some-marked (Some x) = refl

module _ {K X : Type 0} {R : K → K → Ordering} (o : IsTotalOrder R) (exact : finite.IsAntisymmetric R) where
  -- keys in order, which are those of the map, are the map's keys
  pub keys_are : (m : finite.FinMap R X) (ks : List (K × Unit {0})) → T (is_sorted R ks) → ((q : K) → is_some (finite.get m q) ≡ is_some (find R q ks)) → finite.keys m ≡ map (λ e. e.0) ks
  keys_are m ks sorted same =
      let own = marks R (finite.entries m) in
      let own_sorted = marks_sorted R (finite.entries m) (finite.entries_sorted m) in
      let answers : (q : K) → finite.get (finite.from_sorted {R = R} own) q ≡ find R q ks = λ q.
      finite.get-from_sorted R own q own_sorted ∙ find-marks R q (finite.entries m)
      ∙ units _ _ (is_some-marked (find R q (finite.entries m)) ∙ ap is_some (sym (finite.get-entries m q)) ∙ same q) in
      let list : finite.entries (finite.from_sorted {R = R} own) ≡ ks = entries_are o exact (finite.from_sorted own) ks sorted answers in
      sym (marks_keys R (finite.entries m)) ∙ ap (map (λ (e : K × Unit {0}). e.0)) (sym (finite.entries-from_sorted R own own_sorted) ∙ list)
