-- What a binary search finds in a list that rises is what its set contains.
use Rattle.std.proofs.Common.{◌≡◌, ℕ, suc, ◌+◌, ◌<◌, Bool, false, ◌||◌, List, [], ◌∷◌, length, get_or, Result, Ok, Err, refl, sym, ap, ◌∙◌, arith}
use Rattle.std.specs.Cmp.{IsTotalOrder}
use Rattle.std.specs.FinSet as set
use Rattle.std.specs.List.{list_any}
use Rattle.std.specs.List.Sorted.{IsStrictlySortedBy, IsSorted, IsBinarySearchResult, IsSearchInRange}
use Rattle.std.specs.Ordering.{eq_by_cmp, is_eq, is_lt, ordering_reverse}
use Rattle.std.specs.Result.{is_ok}
use Rattle.std.specs.declared.cmp.Ordering.{Ordering}
use Rattle.std.specs.declared.cmp.Ordering.TheVariants.{Less, Equal, Greater}
use Rattle.std.proofs.lemmas.Bool.{cases_lt}
use Rattle.std.proofs.Common.{inl, inr}
use Rattle.std.proofs.lemmas.List.Folds.{list_any_at}
use Rattle.std.proofs.lemmas.List.Sorted.{searchable_from_sorted}
use Rattle.std.proofs.lemmas.Map.Keys.{Less-from_sorted}

none_passes : {K : Type 0} (p : K → Bool) (xs : List K) → ((k : ℕ) (d : K) → k < length xs → p (get_or xs k d) ≡ false) → list_any p xs ≡ false
none_passes p [] each = refl
none_passes p (x ∷ xs) each = ap (λ b. b || list_any p xs) (each 0 x (omega arith)) ∙ none_passes p xs (λ k d h. each (suc k) d (omega arith))

module _ {K : Type 0} {R : K → K → Ordering} (o : IsTotalOrder R) where
  sorted_from_rising : (xs : List K) → IsStrictlySortedBy R xs → IsSorted R xs
  sorted_from_rising xs rises k d low high =
      let next : R (get_or xs k d) (get_or xs (k + 1) d) ≡ Less = Less-from_sorted R xs k (k + 1) d rises (omega arith) high in
      ap is_lt (o.antisymm (get_or xs (k + 1) d) (get_or xs k d)) ∙ ap (λ r. is_lt (ordering_reverse r)) next

  -- the query stands on the other side of the order
  pub same_side : (x q : K) → eq_by_cmp R q x ≡ is_eq (R x q)
  same_side x q = ap is_eq (o.antisymm q x) ∙ turned (R x q)
    where
      turned : (r : Ordering) → is_eq (ordering_reverse r) ≡ is_eq r
      turned Less = refl
      turned Equal = refl
      turned Greater = refl

  pub found_by_search : (xs : List K) (q : K) (r : Result ℕ ℕ) → IsStrictlySortedBy R xs → IsSearchInRange r (length xs) → IsBinarySearchResult (λ y. R y q) xs r → is_ok r ≡ set.contains (set.from_list {R = R} xs) q
  found_by_search xs q (Ok i) rises bound found =
      sym (set.contains-from_list o xs q ∙ list_any_at (eq_by_cmp R q) xs i q bound (same_side (get_or xs i q) q ∙ ap is_eq (found q)))
  found_by_search xs q (Err i) rises bound found =
      let split = found (searchable_from_sorted o (λ x. x) xs q (sorted_from_rising xs rises)) in
      sym (set.contains-from_list o xs q ∙ none_passes (eq_by_cmp R q) xs (λ k d h.
      same_side (get_or xs k d) q ∙ elim (cases_lt k i) [
        | inl lt ↦ ap is_eq (split.0 k d (omega arith) lt)
        | inr le ↦ ap is_eq (split.1 k d le h)
      ]))
