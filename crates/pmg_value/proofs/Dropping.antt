-- How deep drops go: an array leads to its items, and they lead to no array.
use Rattle.std.proofs.Common.{◌+◌, ◌≤◌, ℕ, List, [], ◌∷◌, IsTrue, arith}
use Rattle.std.proofs.lemmas.Bool.{and_parts}
use denote.Param.Weighed.{most}
use Rattle.pmg_value.specs.declared.value.Value.{Value}
use Rattle.pmg_value.specs.declared.array.Array.TheDeep.{size-Value}
use Rattle.pmg_value.specs.declared.array.ItemList.{ItemList}
use Rattle.pmg_value.specs.declared.array.ItemList.TheVariants as lists
use Rattle.pmg_value.specs.Items.{listed_values}
use Rattle.pmg_value.specs.Nesting.{leads_nowhere}
use Rattle.pmg_value.specs.Spelling.{form, is_plain_form, are_plain}

-- how deep the drop of a list goes
abbrev pub list_depth : ItemList → ℕ
list_depth (lists.Values vs) = 1 + most size-Value vs.items
list_depth (lists.Numbers ns) = 0

-- values that are no arrays lead to none
lead_nowhere : (items : List Value) → IsTrue (are_plain items) → most size-Value items ≤ 1
lead_nowhere [] h = omega arith
lead_nowhere (v ∷ vs) h =
    let parts = and_parts (is_plain_form (form v)) (are_plain vs) h in
    omega (arith, leads_nowhere v parts.0, lead_nowhere vs parts.1)

-- so the drop of an array's items does not go deep
pub is_low : (tag : ℕ) (list : ItemList) → IsTrue (are_plain (listed_values tag list)) → list_depth list ≤ 2
is_low tag (lists.Values vs) h = let low = lead_nowhere vs.items h in omega (arith, low)
is_low tag (lists.Numbers ns) h = omega arith
