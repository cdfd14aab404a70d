-- Items of lists that are made of others: of those that pass a test, of what each item gives, and of a range.
use Rattle.std.proofs.Common.{◌≡◌, ℕ, zero, suc, ◌+◌, ◌<◌, ◌≤◌, Bool, true, false, List, [], ◌∷◌, ◌⊎◌, inl, inr, refl, sym, ap, subst, ◌∙◌, arith}
use Rattle.std.specs.Prelude.{cond}
use Rattle.std.specs.List.{filter, flat_map, range_with_len}
use Rattle.pmg_value.specs.Lists.{In}
use Rattle.pmg_value.proofs.ListLemmas.{in_append_left, in_append_right, in_parts}

module _ {A : Type 0} (p : A → Bool) where
  pub in_filter : (xs : List A) (x : A) → In x xs → p x ≡ true → In x (filter p xs)
  in_filter [] x i h = absurd i
  in_filter (y ∷ ys) x (inl same) h = subst (λ (b : Bool). In x (cond b (y ∷ filter p ys) (filter p ys))) (sym h ∙ ap p same) (inl same)
  in_filter (y ∷ ys) x (inr i) h = elim (p y) as (λ b. In x (cond b (y ∷ filter p ys) (filter p ys))) [ true ↦ inr (in_filter ys x i h) | false ↦ in_filter ys x i h ]

  pub in_filter_from : (xs : List A) (x : A) → In x (filter p xs) → In x xs × (p x ≡ true)
  in_filter_from [] x i = absurd i
  in_filter_from (y ∷ ys) x i =
      elim (p y) as (λ b. p y ≡ b → In x (cond b (y ∷ filter p ys) (filter p ys)) → In x (y ∷ ys) × (p x ≡ true)) [
        | true ↦ λ t j. elim j [ inl same ↦ (inl same, ap p same ∙ t) | inr rest ↦ let found = in_filter_from ys x rest in (inr found.0, found.1) ]
        | false ↦ λ t j. let found = in_filter_from ys x j in (inr found.0, found.1)
      ] refl i

module _ {A B : Type 0} (f : A → List B) where
  pub in_flat : (xs : List A) (x : A) (z : B) → In x xs → In z (f x) → In z (flat_map f xs)
  in_flat [] x z i j = absurd i
  in_flat (y ∷ ys) x z (inl same) j = in_append_left (f y) (flat_map f ys) z (subst (λ (w : A). In z (f w)) same j)
  in_flat (y ∷ ys) x z (inr i) j = in_append_right (f y) (flat_map f ys) z (in_flat ys x z i j)

  pub in_flat_from : (xs : List A) (z : B) → In z (flat_map f xs) → (x : A) × In x xs × In z (f x)
  in_flat_from [] z i = absurd i
  in_flat_from (x ∷ xs) z i =
      elim (in_parts (f x) (flat_map f xs) z i) [
        | inl j ↦ (x, inl refl, j)
        | inr j ↦ let found = in_flat_from xs z j in (found.0, inr found.1, found.2)
      ]

pub in_range : (a n k : ℕ) → In k (range_with_len a n) → (a ≤ k) × (k < a + n)
in_range a zero k i = absurd i
in_range a (suc n) k (inl e) = (omega (arith, e), omega (arith, e))
in_range a (suc n) k (inr i) = let h = in_range (a + 1) n k i in (omega (arith, h.0), omega (arith, h.1))

pub range_in : (a n k : ℕ) → a ≤ k → k < a + n → In k (range_with_len a n)
range_in a zero k low high = absurd (omega (arith, low, high))
range_in a (suc n) k low high = elim (order_cases a k low) [ inl e ↦ inl (sym e) | inr less ↦ inr (range_in (a + 1) n k (omega (arith, less)) (omega (arith, high))) ]
  where
    order_cases : (x y : ℕ) → x ≤ y → (x ≡ y) ⊎ (x < y)
    order_cases zero zero h = inl refl
    order_cases zero (suc y) h = inr (omega arith)
    order_cases (suc x) zero h = absurd (omega (arith, h))
    order_cases (suc x) (suc y) h = elim (order_cases x y (omega (arith, h))) [ inl e ↦ inl (ap (λ (n : ℕ). suc n) e) | inr less ↦ inr (omega (arith, less)) ]
