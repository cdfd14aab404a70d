-- What a slice's `is_sorted_by` answers, in the word `is_chain`.
use Rattle.std.proofs.Common.{ℕ, zero, suc, List, [], ◌∷◌, ◌≡◌, ◌+◌, ◌<◌, Bool, true, false, ◌&&◌, map, length, get_or, refl, sym, ap, subst, add-one, arith}
use Rattle.std.specs.List.{IsAllAdjacentAnswer}
use Rattle.std.proofs.lemmas.Bool.{and_from, and_left, and_right}
use Rattle.pmg_value.specs.Lists.{leads, is_chain}

module _ {A : Type 0} (R : A → A → Bool) where
  each_leads : (x : A) (xs : List A) → ((k : ℕ) (d : A) → suc k < length (x ∷ xs) → true ≡ R (get_or (x ∷ xs) k d) (get_or (x ∷ xs) (suc k) d)) → leads R x xs ≡ true
  each_leads x [] each = refl
  each_leads x (y ∷ ys) each = and_from _ _ (sym (each 0 x (omega arith))) (each_leads y ys (λ k d h. each (suc k) d (omega arith)))

  one_breaks : (x : A) (xs : List A) (k : ℕ) → suc k < length (x ∷ xs) → ((d : A) → false ≡ R (get_or (x ∷ xs) k d) (get_or (x ∷ xs) (suc k) d)) → leads R x xs ≡ false
  one_breaks x [] k h breaks = absurd (omega arith)
  one_breaks x (y ∷ ys) zero h breaks = and_left _ _ (sym (breaks x))
  one_breaks x (y ∷ ys) (suc k) h breaks = and_right _ _ (one_breaks y ys k (omega arith) (λ d. breaks d))

  at_next : (xs : List A) (b : Bool) (k : ℕ) (d : A) → b ≡ R (get_or xs k d) (get_or xs (k + 1) d) → b ≡ R (get_or xs k d) (get_or xs (suc k) d)
  at_next xs b k d = subst (λ m. b ≡ R (get_or xs k d) (get_or xs m d)) (add-one k)

  pub is_chain-adjacent : (xs : List A) (r : Bool) → IsAllAdjacentAnswer (λ x y b. b ≡ R x y) xs r → r ≡ is_chain R xs
  is_chain-adjacent [] true h = refl
  is_chain-adjacent [] false h = absurd (omega arith)
  is_chain-adjacent (x ∷ xs) true h = sym (each_leads x xs (λ k d p. at_next (x ∷ xs) true k d (h k d (omega arith))))
  is_chain-adjacent (x ∷ xs) false h = sym (one_breaks x xs h.0 (omega arith) (λ d. at_next (x ∷ xs) false h.0 d (h.2 d)))

module _ {A B : Type 0} (R : B → B → Bool) (f : A → B) where
  leads-map : (x : A) (xs : List A) → leads R (f x) (map f xs) ≡ leads (λ a b. R (f a) (f b)) x xs
  leads-map x [] = refl
  leads-map x (y ∷ ys) = ap (λ b. R (f x) (f y) && b) (leads-map y ys)

  pub is_chain-map : (xs : List A) → is_chain R (map f xs) ≡ is_chain (λ a b. R (f a) (f b)) xs
  is_chain-map [] = refl
  is_chain-map (x ∷ xs) = leads-map x xs
