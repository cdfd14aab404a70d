-- The texts of items that are written one after another.
use Rattle.std.proofs.Common.{◌≡◌, ℕ, zero, suc, ◌+◌, ◌<◌, ◌≤◌, List, [], ◌∷◌, ◌++◌, length, get_or, take, drop, refl, sym, ap, subst, ◌∙◌, append_assoc, arith}
use Rattle.std.specs.declared.option.Option.{Option}
use Rattle.std.specs.List.{flat_map}
use Rattle.std.specs.Io.KnownBytes.{Appends}
use Rattle.std.proofs.lemmas.Grind.{flat_map-append}
use Rattle.std.proofs.lemmas.List.{append-nil, take_more, take_all}
use Rattle.pmg_value.specs.Written.{AppendsFront}
use Rattle.pmg_value.proofs.WrittenLemmas.{front_of_first, front_of_second, appends_then}

module _ {A : Type 0} (f : A → List ℕ) where
  flat_split : (xs : List A) (i : ℕ) (d : A) → i < length xs → (flat_map f (take i xs) ++ f (get_or xs i d)) ++ flat_map f (drop (suc i) xs) ≡ flat_map f xs
  flat_split [] i d lt = absurd (omega arith)
  flat_split (x ∷ xs) zero d lt = refl
  flat_split (x ∷ xs) (suc i) d lt =
      ap (λ (t : List ℕ). t ++ flat_map f (drop (suc i) xs)) (append_assoc (f x) (flat_map f (take i xs)) (f (get_or xs i d)))
      ∙ append_assoc (f x) (flat_map f (take i xs) ++ f (get_or xs i d)) (flat_map f (drop (suc i) xs))
      ∙ ap (λ (t : List ℕ). f x ++ t) (flat_split xs i d (omega (arith, lt)))

  -- a prefix of the text of one item, after those of all before it, is a prefix of the text of all
  pub flat_front : (old mid new : Option (List ℕ)) (xs : List A) (i : ℕ) (d : A) → i < length xs → AppendsFront mid new (f (get_or xs i d)) → Appends old mid (flat_map f (take i xs)) → AppendsFront old new (flat_map f xs)
  flat_front old mid new xs i d lt front first =
      subst (AppendsFront old new) (flat_split xs i d lt) (front_of_first (flat_map f (drop (suc i) xs)) (front_of_second (flat_map f (take i xs)) front first))

  -- the text of one more item
  pub flat_more : (old mid new : Option (List ℕ)) (xs : List A) (i : ℕ) (d : A) → i < length xs → Appends mid new (f (get_or xs i d)) → Appends old mid (flat_map f (take i xs)) → Appends old new (flat_map f (take (i + 1) xs))
  flat_more old mid new xs i d lt next first =
      let one : flat_map f (take (i + 1) xs) ≡ flat_map f (take i xs) ++ f (get_or xs i d) =
      ap (flat_map f) (take_more xs i d lt) ∙ flat_map-append f (take i xs) (get_or xs i d ∷ []) ∙ ap (λ (t : List ℕ). flat_map f (take i xs) ++ t) (append-nil (f (get_or xs i d))) in
      subst (Appends old new) (sym one) (appends_then old mid new (flat_map f (take i xs)) (f (get_or xs i d)) next first)

  -- the texts of all items were written
  pub flat_all : (old new : Option (List ℕ)) (xs : List A) (i : ℕ) → length xs ≤ i → Appends old new (flat_map f (take i xs)) → Appends old new (flat_map f xs)
  flat_all old new xs i le all = subst (λ (ys : List A). Appends old new (flat_map f ys)) (take_all i xs le) all
