-- What a value is, and the value that is so.
use Rattle.std.proofs.Common.{◌≡◌, IsTrue, refl}
use Rattle.pmg_value.specs.declared.value.Value.{Value}
use Rattle.pmg_value.specs.declared.value.Value.TheVariants as values
use Rattle.pmg_value.specs.Plain.{Plain, plain_tag, is_plain_tag}
use Rattle.pmg_value.specs.Spelling.{Form, form, value_of}

-- a value is the one that is so
pub value_of-form : (v : Value) → value_of (form v) ≡ v
value_of-form (values.Bool b) = refl
value_of-form (values.Byte n) = refl
value_of-form (values.Str t) = refl
value_of-form (values.Size n) = refl
value_of-form (values.I8 z) = refl
value_of-form (values.I16 z) = refl
value_of-form (values.I32 z) = refl
value_of-form (values.I64 z) = refl
value_of-form (values.U8 n) = refl
value_of-form (values.U16 n) = refl
value_of-form (values.U32 n) = refl
value_of-form (values.U64 n) = refl
value_of-form (values.Int z) = refl
value_of-form (values.Uint n) = refl
value_of-form (values.Rank n) = refl
value_of-form (values.Proc p) = refl
value_of-form (values.Status z) = refl
value_of-form (values.Bytes b) = refl
value_of-form (values.Array a) = refl

-- and what it is, is what it was made of
pub form-value_of : (f : Form) → form (value_of f) ≡ f
form-value_of (Form.plain (Plain.bool b)) = refl
form-value_of (Form.plain (Plain.byte n)) = refl
form-value_of (Form.plain (Plain.string t)) = refl
form-value_of (Form.plain (Plain.size n)) = refl
form-value_of (Form.plain (Plain.int8 z)) = refl
form-value_of (Form.plain (Plain.int16 z)) = refl
form-value_of (Form.plain (Plain.int32 z)) = refl
form-value_of (Form.plain (Plain.int64 z)) = refl
form-value_of (Form.plain (Plain.uint8 n)) = refl
form-value_of (Form.plain (Plain.uint16 n)) = refl
form-value_of (Form.plain (Plain.uint32 n)) = refl
form-value_of (Form.plain (Plain.uint64 n)) = refl
form-value_of (Form.plain (Plain.int z)) = refl
form-value_of (Form.plain (Plain.uint n)) = refl
form-value_of (Form.plain (Plain.rank n)) = refl
form-value_of (Form.plain (Plain.proc p)) = refl
form-value_of (Form.plain (Plain.status z)) = refl
form-value_of (Form.plain (Plain.bytes b)) = refl
form-value_of (Form.array a) = refl

-- a value that is no array has no array's tag
pub plain_tag_is : (p : Plain) → IsTrue (is_plain_tag (plain_tag p))
plain_tag_is (Plain.bool b) = refl
plain_tag_is (Plain.byte n) = refl
plain_tag_is (Plain.string t) = refl
plain_tag_is (Plain.size n) = refl
plain_tag_is (Plain.int8 z) = refl
plain_tag_is (Plain.int16 z) = refl
plain_tag_is (Plain.int32 z) = refl
plain_tag_is (Plain.int64 z) = refl
plain_tag_is (Plain.uint8 n) = refl
plain_tag_is (Plain.uint16 n) = refl
plain_tag_is (Plain.uint32 n) = refl
plain_tag_is (Plain.uint64 n) = refl
plain_tag_is (Plain.int z) = refl
plain_tag_is (Plain.uint n) = refl
plain_tag_is (Plain.rank n) = refl
plain_tag_is (Plain.proc p) = refl
plain_tag_is (Plain.status z) = refl
plain_tag_is (Plain.bytes b) = refl
