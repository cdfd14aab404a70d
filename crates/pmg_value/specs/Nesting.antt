-- No array is in an array.
use Rattle.std.specs.Prelude.{ℕ, ◌≡◌, List, [], ◌∷◌, IsTrue}
use Rattle.std.proofs.Common.{refl, arith}
use Rattle.std.proofs.lemmas.Bool.{and_parts}
use denote.Param.Weighed.{most}
use Rattle.pmg_value.specs.declared.value.Value.{Value}
use Rattle.pmg_value.specs.declared.value.Value.TheVariants as values
use Rattle.pmg_value.specs.declared.array.Array.TheDeep.{deep-Value, deep-ItemList}
use Rattle.pmg_value.specs.declared.array.ItemList.{ItemList}
use Rattle.pmg_value.specs.declared.array.ItemList.TheVariants as lists
use Rattle.pmg_value.specs.Items.{listed_values}
use Rattle.pmg_value.specs.Spelling.{form, is_plain_form, are_plain}

-- a value that is not an array contains no array
pub leads_nowhere : (v : Value) → IsTrue (is_plain_form (form v)) → deep-Value v ≡ 0
leads_nowhere (values.Bool b) h = refl
leads_nowhere (values.Byte n) h = refl
leads_nowhere (values.Str t) h = refl
leads_nowhere (values.Size n) h = refl
leads_nowhere (values.I8 z) h = refl
leads_nowhere (values.I16 z) h = refl
leads_nowhere (values.I32 z) h = refl
leads_nowhere (values.I64 z) h = refl
leads_nowhere (values.U8 n) h = refl
leads_nowhere (values.U16 n) h = refl
leads_nowhere (values.U32 n) h = refl
leads_nowhere (values.U64 n) h = refl
leads_nowhere (values.Int z) h = refl
leads_nowhere (values.Uint n) h = refl
leads_nowhere (values.Rank n) h = refl
leads_nowhere (values.Proc p) h = refl
leads_nowhere (values.Status z) h = refl
leads_nowhere (values.Bytes b) h = refl
leads_nowhere (values.Array a) h = absurd cc

-- nor do several values that are not arrays
lead_nowhere : (items : List Value) → IsTrue (are_plain items) → most deep-Value items ≡ 0
lead_nowhere [] h = refl
lead_nowhere (v ∷ vs) h =
    let parts = and_parts (is_plain_form (form v)) (are_plain vs) h in
    omega (arith, leads_nowhere v parts.0, lead_nowhere vs parts.1)

-- an array's items therefore contain none
pub is_flat : (tag : ℕ) (list : ItemList) → IsTrue (are_plain (listed_values tag list)) → deep-ItemList list ≡ 0
is_flat tag (lists.Values vs) h = rw (lead_nowhere vs.items h) refl
is_flat tag (lists.Numbers ns) h = refl
