-- A search from the front.
use Rattle.std.proofs.Common.{◌≡◌, ℕ, ◌+◌, ◌<◌, ◌≤◌, Bool, true, false, cond, List, ◌∷◌, length, get_or, drop, sym, ap, ◌∙◌, drop-cons, add-one}
use Rattle.std.specs.Prelude.{Some, None}
use Rattle.std.specs.List.{find}
use Rattle.std.proofs.lemmas.List.{drop_all}

module _ {A : Type 0} (p : A → Bool) (xs : List A) where
  at_front : (i : ℕ) (d : A) → i < length xs → find p (drop i xs) ≡ cond (p (get_or xs i d)) (Some (get_or xs i d)) (find p (drop (i + 1) xs))
  at_front i d lt = ap (find p) (drop-cons xs i d lt ∙ ap (λ (j : ℕ). get_or xs i d ∷ drop j xs) (sym (add-one i)))

  pub found : (i : ℕ) (d : A) → i < length xs → find p xs ≡ find p (drop i xs) → p (get_or xs i d) ≡ true → Some (get_or xs i d) ≡ find p xs
  found i d lt so_far t = sym (so_far ∙ at_front i d lt ∙ ap (λ b. cond b (Some (get_or xs i d)) (find p (drop (i + 1) xs))) t)

  pub passed : (i : ℕ) (d : A) → i < length xs → find p xs ≡ find p (drop i xs) → p (get_or xs i d) ≡ false → find p xs ≡ find p (drop (i + 1) xs)
  passed i d lt so_far t = so_far ∙ at_front i d lt ∙ ap (λ b. cond b (Some (get_or xs i d)) (find p (drop (i + 1) xs))) t

  pub not_found : (i : ℕ) → length xs ≤ i → find p xs ≡ find p (drop i xs) → None ≡ find p xs
  not_found i past so_far = sym (so_far ∙ ap (find p) (drop_all i xs past))
