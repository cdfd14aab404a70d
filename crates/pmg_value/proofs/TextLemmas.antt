-- The texts of an array's items.
use Rattle.std.proofs.Common.{◌≡◌, ℕ, ◌<◌, List, length, get_or, false, IsTrue, ◌∷◌, refl, sym, ap, subst, ◌∙◌}
use Rattle.std.proofs.lemmas.Bool.{and_parts}
use Rattle.std.proofs.lemmas.List.{get_or-map}
use Rattle.pmg_value.specs.declared.value.Value.{Value}
use Rattle.pmg_value.specs.Plain.{Plain, plain_text}
use Rattle.pmg_value.specs.Spelling.{Form, form, is_plain_form, plain_of, are_plain, plains_of}
use Rattle.pmg_value.specs.Text.{form_text}

-- a value that is no array shows as an array shows it
pub text_is : (f : Form) → IsTrue (is_plain_form f) → form_text f ≡ plain_text (plain_of f)
text_is (Form.plain p) h = refl
text_is (Form.array a) h = absurd cc

-- an item as the array holds it
pub item_at : (items : List Value) (i : ℕ) (v : Value) → i < length items → v ≡ get_or items i v → plain_of (form v) ≡ get_or (plains_of items) i (Plain.bool false)
item_at items i v lt at = ap (λ (w : Value). plain_of (form w)) at ∙ sym (get_or-map (λ w. plain_of (form w)) items i v (Plain.bool false) lt)

-- the first item of some is no array
pub first_plain : (items : List Value) (v : Value) (vs : List Value) → items ≡ v ∷ vs → IsTrue (are_plain items) → IsTrue (is_plain_form (form v))
first_plain items v vs is plain = (and_parts (is_plain_form (form v)) (are_plain vs) (subst (λ (ws : List Value). IsTrue (are_plain ws)) is plain)).0
