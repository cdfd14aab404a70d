-- Membership in a list, and the tests that compute it.
use Rattle.std.proofs.Common.{List, [], ◌∷◌, ◌++◌, ◌≡◌, ◌⊎◌, inl, inr, Bool, true, false, ◌||◌, map, refl, sym, ap, ◌∙◌, subst}
use Rattle.std.specs.List.{list_any, find}
use Rattle.std.specs.Prelude.{Some, None, cond}
use Rattle.std.proofs.lemmas.Bool.{false≢true, or_cases, or_right, or_parts}
use Rattle.pmg_value.specs.Lists.{In, SameItems}

module _ {A : Type 0} where
  pub in_from_list_any : (p : A → Bool) (xs : List A) → list_any p xs ≡ true → (x : A) × In x xs × (p x ≡ true)
  in_from_list_any p [] h = absurd (false≢true h)
  in_from_list_any p (x ∷ xs) h =
      elim (or_cases (p x) (list_any p xs) h) [
        | inl a ↦ (x, inl refl, a)
        | inr b ↦ let found = in_from_list_any p xs b in (found.0, inr found.1, found.2)
      ]

  pub list_any_in : (p : A → Bool) (xs : List A) (x : A) → In x xs → p x ≡ true → list_any p xs ≡ true
  list_any_in p [] x i h = absurd i
  list_any_in p (y ∷ ys) x (inl e) h = ap (λ b. b || list_any p ys) (ap p (sym e) ∙ h)
  list_any_in p (y ∷ ys) x (inr i) h = or_right (p y) (list_any p ys) (list_any_in p ys x i h)

  pub not_in_list_any : (p : A → Bool) (xs : List A) → list_any p xs ≡ false → (x : A) → In x xs → p x ≡ false
  not_in_list_any p [] h x i = absurd i
  not_in_list_any p (y ∷ ys) h x (inl e) = ap p e ∙ (or_parts (p y) (list_any p ys) h).0
  not_in_list_any p (y ∷ ys) h x (inr i) = not_in_list_any p ys (or_parts (p y) (list_any p ys) h).1 x i

  pub list_any_none : (p : A → Bool) (xs : List A) → ((x : A) → In x xs → p x ≡ false) → list_any p xs ≡ false
  list_any_none p [] h = refl
  list_any_none p (x ∷ xs) h = ap (λ b. b || list_any p xs) (h x (inl refl)) ∙ list_any_none p xs (λ y i. h y (inr i))

  -- what a search finds is an item that passes, and it finds one where one passes
  pub find_some : (p : A → Bool) (xs : List A) (x : A) → find p xs ≡ Some x → In x xs × (p x ≡ true)
  find_some p [] x h = cc
  find_some p (y ∷ ys) x h =
      elim (p y) as (λ b. p y ≡ b → cond b (Some y) (find p ys) ≡ Some x → In x (y ∷ ys) × (p x ≡ true)) [
        | true ↦ λ t e. let same : y ≡ x = cc in (inl (sym same), ap p (sym same) ∙ t)
        | false ↦ λ t e. let found = find_some p ys x e in (inr found.0, found.1)
      ] refl h

  pub find_in : (p : A → Bool) (xs : List A) (x : A) → In x xs → p x ≡ true → (y : A) × (find p xs ≡ Some y)
  find_in p [] x i h = absurd i
  find_in p (z ∷ zs) x i h =
      elim (p z) as (λ b. p z ≡ b → (y : A) × (cond b (Some z) (find p zs) ≡ Some y)) [
        | true ↦ λ t. (z, refl)
        | false ↦ λ t. elim i [ inl e ↦ absurd (false≢true (sym t ∙ ap p (sym e) ∙ h)) | inr j ↦ find_in p zs x j h ]
      ] refl

  pub find_none : (p : A → Bool) (xs : List A) → ((x : A) → In x xs → p x ≡ false) → find p xs ≡ None
  find_none p [] h = refl
  find_none p (x ∷ xs) h = ap (λ b. cond b (Some x) (find p xs)) (h x (inl refl)) ∙ find_none p xs (λ y i. h y (inr i))

  pub in_append_left : (xs ys : List A) (x : A) → In x xs → In x (xs ++ ys)
  in_append_left [] ys x i = absurd i
  in_append_left (z ∷ zs) ys x (inl e) = inl e
  in_append_left (z ∷ zs) ys x (inr i) = inr (in_append_left zs ys x i)

  pub in_append_right : (xs ys : List A) (x : A) → In x ys → In x (xs ++ ys)
  in_append_right [] ys x i = i
  in_append_right (z ∷ zs) ys x i = inr (in_append_right zs ys x i)

  pub in_parts : (xs ys : List A) (x : A) → In x (xs ++ ys) → In x xs ⊎ In x ys
  in_parts [] ys x i = inr i
  in_parts (z ∷ zs) ys x (inl e) = inl (inl e)
  in_parts (z ∷ zs) ys x (inr i) = elim (in_parts zs ys x i) [ inl a ↦ inl (inr a) | inr b ↦ inr b ]

module _ {A B : Type 0} (f : A → B) where
  pub in_map : (xs : List A) (x : A) → In x xs → In (f x) (map f xs)
  in_map [] x i = absurd i
  in_map (y ∷ ys) x (inl e) = inl (ap f e)
  in_map (y ∷ ys) x (inr i) = inr (in_map ys x i)

  pub in_map_from : (xs : List A) (z : B) → In z (map f xs) → (x : A) × In x xs × (z ≡ f x)
  in_map_from [] z i = absurd i
  in_map_from (y ∷ ys) z (inl e) = (y, inl refl, e)
  in_map_from (y ∷ ys) z (inr i) = let found = in_map_from ys z i in (found.0, inr found.1, found.2)

  pub same_items_map : (xs ys : List A) → SameItems xs ys → SameItems (map f xs) (map f ys)
  same_items_map xs ys same z = (λ i. moved xs ys (λ x. (same x).0) (in_map_from xs z i), λ i. moved ys xs (λ x. (same x).1) (in_map_from ys z i))
    where
      moved : (us vs : List A) → ((x : A) → In x us → In x vs) → ((x : A) × In x us × (z ≡ f x)) → In z (map f vs)
      moved us vs over found = subst (λ w. In w (map f vs)) (sym found.2) (in_map vs found.0 (over found.0 found.1))
