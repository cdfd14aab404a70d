-- In a list with a transitive test that no item passes with itself, above each item that has one above it
-- is a top one.
use Rattle.std.proofs.Common.{List, [], ◌∷◌, ◌≡◌, ◌⊎◌, inl, inr, Bool, true, false, ◌||◌, refl, sym, ap, ◌∙◌}
use Rattle.std.specs.List.{list_any}
use Rattle.std.proofs.lemmas.Bool.{false≢true, false_from_ne_true}
use Rattle.pmg_value.specs.Lists.{In}

module _ {A : Type 0} (R : A → A → Bool) (itself : (a : A) → R a a ≡ true → ⊥) (trans : (a b c : A) → R a b ≡ true → R b c ≡ true → R a c ≡ true) where
  -- g is above e, and nothing is above g
  abbrev pub TopAbove : A → List A → Type 0
  TopAbove e xs = (g : A) × In g xs × (R e g ≡ true) × (list_any (R g) xs ≡ false)

  none_more : (g x : A) (xs : List A) → R g x ≡ false → list_any (R g) xs ≡ false → list_any (R g) (x ∷ xs) ≡ false
  none_more g x xs h rest = ap (λ b. b || list_any (R g) xs) h ∙ rest

  pub top_of : (xs : List A) (e : A) → (list_any (R e) xs ≡ false) ⊎ TopAbove e xs
  top_of [] e = inl refl
  top_of (x ∷ xs) e =
      elim (R e x) as (λ b. R e x ≡ b → (list_any (R e) (x ∷ xs) ≡ false) ⊎ TopAbove e (x ∷ xs)) [
        | true ↦ λ above. inr (elim (top_of xs x) [
          | inl none ↦ (x, inl refl, above, none_more x x xs (false_from_ne_true (R x x) (itself x)) none)
          | inr t ↦ (t.0, inr t.1, trans e x t.0 above t.2, none_more t.0 x xs (false_from_ne_true (R t.0 x) (λ h. itself x (trans x t.0 x t.2 h))) t.3)
        ])
        | false ↦ λ below. elim (top_of xs e) [
          | inl none ↦ inl (none_more e x xs below none)
          | inr t ↦ inr (t.0, inr t.1, t.2, none_more t.0 x xs (false_from_ne_true (R t.0 x) (λ h. false≢true (sym below ∙ trans e t.0 x t.2 h))) t.3)
        ]
      ] refl
