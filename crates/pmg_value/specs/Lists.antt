-- Notions on lists.
use Rattle.std.specs.Prelude.{Bool, true, ◌&&◌, List, [], ◌∷◌, ◌≡◌, ◌⊎◌}

-- x is one of the items
abbrev pub In : {A : Type 0} → A → List A → Type 0
In x [] = ⊥
In x (y ∷ ys) = (x ≡ y) ⊎ In x ys

-- the two lists have the same items, in whatever order and however often
abbrev pub SameItems : {A : Type 0} → List A → List A → Type 0
SameItems {A} xs ys = (x : A) → (In x xs → In x ys) × (In x ys → In x xs)

-- x and each of the ys are in the relation with the next
abbrev pub leads : {A : Type 0} → (A → A → Bool) → A → List A → Bool
leads R x [] = true
leads R x (y ∷ ys) = R x y && leads R y ys

-- each item is in the relation with the next
abbrev pub is_chain : {A : Type 0} → (A → A → Bool) → List A → Bool
is_chain R [] = true
is_chain R (x ∷ xs) = leads R x xs

-- each item has the property
abbrev pub Each : {A : Type 0} → (A → Type 0) → List A → Type 0
Each P [] = Unit {0}
Each P (x ∷ xs) = P x × Each P xs
