-- A value's one encoding: its canonical bytes.
use Rattle.std.specs.Prelude.{ℕ, Bool, true, false, ◌≡◌, ◌+◌, ◌&&◌, List, ◌∷◌, length, map, IsTrue}
use Rattle.std.specs.List.{list_all}
use Rattle.pmg_value.specs.declared.value.Value.{Value}
use Rattle.pmg_value.specs.declared.value.Value.TheVariants as values
use Rattle.pmg_value.specs.Plain.{Plain, IsPlain, plain_tag, plain_body}
use Rattle.pmg_value.specs.Elements.{Elements, IsArray, is_array, array_body}

-- the form of a value: an array, or another value
pub data Form : Type 0 where
  plain : Plain → Form
  array : Elements → Form

-- the form of this value
abbrev pub form : Value → Form
form (values.Bool b) = Form.plain (Plain.bool b)
form (values.Byte n) = Form.plain (Plain.byte n)
form (values.Str t) = Form.plain (Plain.string t)
form (values.Size n) = Form.plain (Plain.size n)
form (values.I8 z) = Form.plain (Plain.int8 z)
form (values.I16 z) = Form.plain (Plain.int16 z)
form (values.I32 z) = Form.plain (Plain.int32 z)
form (values.I64 z) = Form.plain (Plain.int64 z)
form (values.U8 n) = Form.plain (Plain.uint8 n)
form (values.U16 n) = Form.plain (Plain.uint16 n)
form (values.U32 n) = Form.plain (Plain.uint32 n)
form (values.U64 n) = Form.plain (Plain.uint64 n)
form (values.Int z) = Form.plain (Plain.int z)
form (values.Uint n) = Form.plain (Plain.uint n)
form (values.Rank n) = Form.plain (Plain.rank n)
form (values.Proc p) = Form.plain (Plain.proc p)
form (values.Status z) = Form.plain (Plain.status z)
form (values.Bytes b) = Form.plain (Plain.bytes b)
form (values.Array a) = Form.array a

-- the value of this form
abbrev pub value_of : Form → Value
value_of (Form.plain (Plain.bool b)) = values.Bool b
value_of (Form.plain (Plain.byte n)) = values.Byte n
value_of (Form.plain (Plain.string t)) = values.Str t
value_of (Form.plain (Plain.size n)) = values.Size n
value_of (Form.plain (Plain.int8 z)) = values.I8 z
value_of (Form.plain (Plain.int16 z)) = values.I16 z
value_of (Form.plain (Plain.int32 z)) = values.I32 z
value_of (Form.plain (Plain.int64 z)) = values.I64 z
value_of (Form.plain (Plain.uint8 n)) = values.U8 n
value_of (Form.plain (Plain.uint16 n)) = values.U16 n
value_of (Form.plain (Plain.uint32 n)) = values.U32 n
value_of (Form.plain (Plain.uint64 n)) = values.U64 n
value_of (Form.plain (Plain.int z)) = values.Int z
value_of (Form.plain (Plain.uint n)) = values.Uint n
value_of (Form.plain (Plain.rank n)) = values.Rank n
value_of (Form.plain (Plain.proc p)) = values.Proc p
value_of (Form.plain (Plain.status z)) = values.Status z
value_of (Form.plain (Plain.bytes b)) = values.Bytes b
value_of (Form.array a) = values.Array a

-- the tag of a form
abbrev pub form_tag : Form → ℕ
form_tag (Form.plain p) = plain_tag p
form_tag (Form.array a) = 19

-- the bytes after the tag
abbrev pub form_body : Form → List ℕ
form_body (Form.plain p) = plain_body p
form_body (Form.array a) = array_body a

-- the form keeps the rules of its kind
abbrev pub IsForm : Form → Type 0
IsForm (Form.plain p) = IsPlain p
IsForm (Form.array a) = IsArray a

-- the first of a value's canonical bytes, which says its kind
abbrev pub tag_of : Value → ℕ
tag_of v = form_tag (form v)

-- the bytes after the tag
abbrev pub body_of : Value → List ℕ
body_of v = form_body (form v)

-- a value's canonical bytes: the tag and the body
abbrev pub spelling : Value → List ℕ
spelling v = tag_of v ∷ body_of v

-- the value keeps the rules of its kind
abbrev pub IsValue : Value → Type 0
IsValue v = IsForm (form v)

-- the value is not an array
abbrev pub is_plain_form : Form → Bool
is_plain_form (Form.plain p) = true
is_plain_form (Form.array a) = false

-- an item of an array as the array holds it (an array is never an item: any element takes its place)
abbrev pub plain_of : Form → Plain
plain_of (Form.plain p) = p
plain_of (Form.array a) = Plain.bool false

-- no item is an array
abbrev pub are_plain : List Value → Bool
are_plain items = list_all (λ v. is_plain_form (form v)) items

-- items as an array holds them
abbrev pub plains_of : List Value → List Plain
plains_of items = map (λ v. plain_of (form v)) items

-- the array of these items with this tag
abbrev pub elements : ℕ → List Value → Elements
elements tag items = record { tag = tag; plains = plains_of items }

-- no item is an array, and with this tag the items make an array
abbrev pub makes_array : ℕ → List Value → Bool
makes_array tag items = are_plain items && is_array (elements tag items)

-- an array in memory: its items are not arrays, together they make one, and its size is the size of the value
pub record HoldsArray (tag size : ℕ) (items : List Value) : Type 0 where
  pub plain : IsTrue (are_plain items)
  pub is : IsArray (elements tag items)
  pub sized : size ≡ 1 + length (array_body (elements tag items))
