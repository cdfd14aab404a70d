-- What the items of lists that rise bring, and the entries of a map.
use Rattle.std.proofs.Common.{◌≡◌, Bool, true, false, ◌&&◌, cond, List, [], ◌∷◌, ◌++◌, Some, inl, inr, refl, sym, ap, subst, ◌∙◌}
use Rattle.std.specs.Cmp.{IsTotalOrder, Equal-is}
use Rattle.std.specs.FinMap as finite
use Rattle.std.specs.FinMap.{IsAntisymmetric}
use Rattle.std.specs.FinMap.Entries.{find, below_all, is_sorted}
use Rattle.std.specs.FinSet as set
use Rattle.std.specs.List.{filter, flat_map, list_any, AllByRecursion}
use Rattle.std.specs.List.Sorted.{IsStrictlySortedBy}
use Rattle.std.specs.Map.{keys_of}
use Rattle.std.specs.Ordering.{eq_by_cmp, is_eq, is_lt, ordering_reverse}
use Rattle.std.specs.declared.cmp.Ordering.{Ordering}
use Rattle.std.specs.declared.cmp.Ordering.TheVariants.{Less}
use Rattle.std.proofs.lemmas.Cmp.{tied_itself}
use lib.Dec.{T}
use Rattle.std.proofs.lemmas.List.Kept.{IsStrictlySortedBy-filter}
use Rattle.std.proofs.lemmas.Map.Views.{any-filter_same}
use Rattle.pmg_value.specs.Lists.{In}
use Rattle.pmg_value.specs.InOrder.{in_order}
use Rattle.pmg_value.proofs.SetOrder.{in_order-from_list, parts_of, less_is}

-- ---- of two lists that rise, what each item brings

module _ {K A : Type 0} (n : K → List A) where
  kept_or_not : (p : K → Bool) (x : K) (xs : List K) (b : Bool) → p x ≡ b → (p x ≡ false → n x ≡ []) → flat_map n (filter p xs) ≡ flat_map n xs
      → flat_map n (cond b (x ∷ filter p xs) (filter p xs)) ≡ n x ++ flat_map n xs
  kept_or_not p x xs true is none rest = ap (λ ys. n x ++ ys) rest
  kept_or_not p x xs false is none rest = rest ∙ sym (ap (λ ys. ys ++ flat_map n xs) (none is))

  -- those that bring nothing may be left out
  pub only_some : (p : K → Bool) (xs : List K) → ((x : K) → p x ≡ false → n x ≡ []) → flat_map n (filter p xs) ≡ flat_map n xs
  only_some p [] none = refl
  only_some p (x ∷ xs) none = kept_or_not p x xs (p x) refl (none x) (only_some p xs none)

module _ {K : Type 0} {R : K → K → Ordering} (o : IsTotalOrder R) (exact : IsAntisymmetric R) where
  -- two lists that rise and have the same items are equal
  pub same_rising : (xs ys : List K) → IsStrictlySortedBy R xs → IsStrictlySortedBy R ys → ((q : K) → list_any (eq_by_cmp R q) xs ≡ list_any (eq_by_cmp R q) ys) → xs ≡ ys
  same_rising xs ys one other same =
      sym (in_order-from_list o exact xs one)
      ∙ ap in_order (set.same_set o exact (set.from_list xs) (set.from_list ys) (λ q. set.contains-from_list o xs q ∙ same q ∙ sym (set.contains-from_list o ys q)))
      ∙ in_order-from_list o exact ys other

  and_comm : (a b : Bool) → (a && b) ≡ (b && a)
  and_comm true true = refl
  and_comm true false = refl
  and_comm false true = refl
  and_comm false false = refl

  abbrev is_in : List K → K → Bool
  is_in ys q = list_any (eq_by_cmp R q) ys

  in_both : (xs ys : List K) (q : K) → is_in (filter (is_in ys) xs) q ≡ (is_in ys q && is_in xs q)
  in_both xs ys q = any-filter_same (eq_by_cmp R q) (is_in ys) (is_in ys q) (λ k t. ap (is_in ys) (sym (exact q k ((Equal-is _).0 t)))) xs

  -- where only the items of both bring something, both bring the same
  pub brought_alike : {A : Type 0} (n : K → List A) (xs ys : List K) → IsStrictlySortedBy R xs → IsStrictlySortedBy R ys
      → ((q : K) → is_in ys q ≡ false → n q ≡ []) → ((q : K) → is_in xs q ≡ false → n q ≡ []) → flat_map n xs ≡ flat_map n ys
  brought_alike n xs ys one other none_there none_here =
      sym (only_some n (is_in ys) xs none_there)
      ∙ ap (flat_map n) (same_rising (filter (is_in ys) xs) (filter (is_in xs) ys) (IsStrictlySortedBy-filter R (is_in ys) xs one) (IsStrictlySortedBy-filter R (is_in xs) ys other)
      (λ q. in_both xs ys q ∙ and_comm (is_in ys q) (is_in xs q) ∙ sym (in_both ys xs q)))
      ∙ only_some n (is_in xs) ys none_here

-- ---- the entries of a map

module _ {K X : Type 0} (R : K → K → Ordering) where
  keys_above : (k : K) (es : List (K × X)) → T (below_all R k es) → AllByRecursion (λ y. R k y ≡ Less) (keys_of es)
  keys_above k [] h = tt
  keys_above k (e ∷ es) h = let p = parts_of (is_lt (R k e.0)) (below_all R k es) h in (less_is (R k e.0) p.0, keys_above k es p.1)

  keys_sorted : (es : List (K × X)) → T (is_sorted R es) → IsStrictlySortedBy R (keys_of es)
  unfolding IsStrictlySortedBy
  keys_sorted [] h = tt
  keys_sorted (e ∷ es) h = let p = parts_of (below_all R e.0 es) (is_sorted R es) h in (keys_above e.0 es p.0, keys_sorted es p.1)

  -- the keys of a map rise
  pub keys_rise : (m : finite.FinMap R X) → IsStrictlySortedBy R (finite.keys m)
  keys_rise m = keys_sorted (finite.entries m) (finite.entries_sorted m)

all_in : {K X : Type 0} (P : K → Type 0) (es : List (K × X)) (e : K × X) → AllByRecursion P (keys_of es) → In e es → P e.0
all_in P [] e all i = absurd i
all_in P (f ∷ fs) e all (inl same) = subst (λ (g : _ × _). P g.0) (sym same) all.0
all_in P (f ∷ fs) e all (inr i) = all_in P fs e all.1 i

below_is_other : {K : Type 0} {R : K → K → Ordering} → IsTotalOrder R → (q k : K) → R k q ≡ Less → eq_by_cmp R q k ≡ false
below_is_other o q k h = ap is_eq (o.antisymm q k) ∙ ap (λ r. is_eq (ordering_reverse r)) h

module _ {K X : Type 0} {R : K → K → Ordering} (o : IsTotalOrder R) where
  row_found : (es : List (K × X)) (e : K × X) → IsStrictlySortedBy R (keys_of es) → In e es → find R e.0 es ≡ Some e.1
  unfolding IsStrictlySortedBy
  row_found [] e rises i = absurd i
  row_found (f ∷ fs) e rises (inl same) =
      ap (λ (g : K × X). find R g.0 (f ∷ fs)) same ∙ ap (λ b. cond b (Some f.1) (find R f.0 fs)) (ap is_eq (tied_itself o f.0)) ∙ ap (λ (g : K × X). Some g.1) (sym same)
  row_found (f ∷ fs) e rises (inr i) =
      ap (λ b. cond b (Some f.1) (find R e.0 fs)) (below_is_other o e.0 f.0 (all_in (λ y. R f.0 y ≡ Less) fs e rises.0 i)) ∙ row_found fs e rises.1 i

  -- under the key of an entry its value is found
  pub each_row : (m : finite.FinMap R X) (e : K × X) → In e (finite.entries m) → finite.get m e.0 ≡ Some e.1
  each_row m e i = finite.get-entries m e.0 ∙ row_found (finite.entries m) e (keys_rise R m) i
