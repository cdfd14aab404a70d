-- Values that are not arrays: their kinds, their canonical bytes, their texts.
use Rattle.std.specs.Prelude.{ℕ, ℤ, Bool, true, false, ◌&&◌, ◌==◌, nat_lt, List, [], ◌∷◌, ◌++◌, length, codes, decimal, ◌<◌, ◌^◌, IsTrue, FitsSigned, if◌then◌else◌}
use Rattle.std.specs.Int.{Width, w8, w16, w32, w64, to_be_bytes, cast_unsigned}
use Rattle.std.specs.Fmt.{signed_decimal}
use Rattle.pmg_value.specs.declared.process.Proc.{Proc}
use Rattle.pmg_value.specs.Blobs.{is_text, is_blob}
use Rattle.pmg_value.specs.Hex.{hex_byte, hex_text}
use Rattle.pmg_value.specs.Names.{is_nspace}

-- a value that is not an array (PMIx Standard 5.0, pmix_value_t)
pub data Plain : Type 0 where
  bool : Bool → Plain
  byte : ℕ → Plain
  string : List ℕ → Plain
  size : ℕ → Plain
  int8 : ℤ → Plain
  int16 : ℤ → Plain
  int32 : ℤ → Plain
  int64 : ℤ → Plain
  uint8 : ℕ → Plain
  uint16 : ℕ → Plain
  uint32 : ℕ → Plain
  uint64 : ℕ → Plain
  int : ℤ → Plain
  uint : ℕ → Plain
  rank : ℕ → Plain
  proc : Proc → Plain
  status : ℤ → Plain
  bytes : List ℕ → Plain

-- the byte that says a value's kind (PMIx Standard 5.0, data types: pmix_data_type_t; the numbers are this project's)
abbrev pub plain_tag : Plain → ℕ
plain_tag (Plain.bool b) = 1
plain_tag (Plain.byte n) = 2
plain_tag (Plain.string t) = 3
plain_tag (Plain.size n) = 4
plain_tag (Plain.int8 z) = 5
plain_tag (Plain.int16 z) = 6
plain_tag (Plain.int32 z) = 7
plain_tag (Plain.int64 z) = 8
plain_tag (Plain.uint8 n) = 9
plain_tag (Plain.uint16 n) = 10
plain_tag (Plain.uint32 n) = 11
plain_tag (Plain.uint64 n) = 12
plain_tag (Plain.int z) = 13
plain_tag (Plain.uint n) = 14
plain_tag (Plain.rank n) = 15
plain_tag (Plain.proc p) = 16
plain_tag (Plain.status z) = 17
plain_tag (Plain.bytes b) = 18

-- the tags of values that are not arrays
abbrev pub is_plain_tag : ℕ → Bool
is_plain_tag tag = nat_lt 0 tag && nat_lt tag 19

-- a signed number of that width: its two's complement, the highest byte first
abbrev pub signed_bytes : Width → ℤ → List ℕ
signed_bytes w z = to_be_bytes w (cast_unsigned w z)

-- four bytes of length, and the bytes
abbrev pub counted : List ℕ → List ℕ
counted text = to_be_bytes w32 (length text) ++ text

-- the bytes after the tag
abbrev pub plain_body : Plain → List ℕ
plain_body (Plain.bool false) = 0 ∷ []
plain_body (Plain.bool true) = 1 ∷ []
plain_body (Plain.byte n) = n ∷ []
plain_body (Plain.string t) = counted t
plain_body (Plain.size n) = to_be_bytes w64 n
plain_body (Plain.int8 z) = cast_unsigned w8 z ∷ []
plain_body (Plain.int16 z) = signed_bytes w16 z
plain_body (Plain.int32 z) = signed_bytes w32 z
plain_body (Plain.int64 z) = signed_bytes w64 z
plain_body (Plain.uint8 n) = n ∷ []
plain_body (Plain.uint16 n) = to_be_bytes w16 n
plain_body (Plain.uint32 n) = to_be_bytes w32 n
plain_body (Plain.uint64 n) = to_be_bytes w64 n
plain_body (Plain.int z) = signed_bytes w32 z
plain_body (Plain.uint n) = to_be_bytes w32 n
plain_body (Plain.rank n) = to_be_bytes w32 n
plain_body (Plain.proc p) = (length p.nspace ∷ p.nspace) ++ to_be_bytes w32 p.rank
plain_body (Plain.status z) = signed_bytes w32 z
plain_body (Plain.bytes b) = counted b

-- the value keeps the rules of its kind
abbrev pub IsPlain : Plain → Type 0
IsPlain (Plain.bool b) = Unit {0}
IsPlain (Plain.byte n) = n < 2 ^ 8
IsPlain (Plain.string t) = IsTrue (is_text t)
IsPlain (Plain.size n) = n < 2 ^ 64
IsPlain (Plain.int8 z) = FitsSigned w8 z
IsPlain (Plain.int16 z) = FitsSigned w16 z
IsPlain (Plain.int32 z) = FitsSigned w32 z
IsPlain (Plain.int64 z) = FitsSigned w64 z
IsPlain (Plain.uint8 n) = n < 2 ^ 8
IsPlain (Plain.uint16 n) = n < 2 ^ 16
IsPlain (Plain.uint32 n) = n < 2 ^ 32
IsPlain (Plain.uint64 n) = n < 2 ^ 64
IsPlain (Plain.int z) = FitsSigned w32 z
IsPlain (Plain.uint n) = n < 2 ^ 32
IsPlain (Plain.rank n) = n < 2 ^ 32
IsPlain (Plain.proc p) = IsTrue (is_nspace p.nspace) × (p.rank < 2 ^ 32)
IsPlain (Plain.status z) = FitsSigned w32 z
IsPlain (Plain.bytes b) = IsTrue (is_blob b)

-- each kind's name, by its tag
abbrev pub kind_name : ℕ → List ℕ
kind_name tag =
    if tag == 1 then codes "bool"
    else if tag == 2 then codes "byte"
    else if tag == 3 then codes "string"
    else if tag == 4 then codes "size"
    else if tag == 5 then codes "i8"
    else if tag == 6 then codes "i16"
    else if tag == 7 then codes "i32"
    else if tag == 8 then codes "i64"
    else if tag == 9 then codes "u8"
    else if tag == 10 then codes "u16"
    else if tag == 11 then codes "u32"
    else if tag == 12 then codes "u64"
    else if tag == 13 then codes "int"
    else if tag == 14 then codes "uint"
    else if tag == 15 then codes "rank"
    else if tag == 16 then codes "proc"
    else if tag == 17 then codes "status"
    else if tag == 18 then codes "bytes"
    else codes "array"

-- the value's text without its kind's name
abbrev pub plain_text : Plain → List ℕ
plain_text (Plain.bool false) = codes "false"
plain_text (Plain.bool true) = codes "true"
plain_text (Plain.byte n) = hex_byte n
plain_text (Plain.string t) = hex_text t
plain_text (Plain.size n) = decimal n
plain_text (Plain.int8 z) = signed_decimal z
plain_text (Plain.int16 z) = signed_decimal z
plain_text (Plain.int32 z) = signed_decimal z
plain_text (Plain.int64 z) = signed_decimal z
plain_text (Plain.uint8 n) = decimal n
plain_text (Plain.uint16 n) = decimal n
plain_text (Plain.uint32 n) = decimal n
plain_text (Plain.uint64 n) = decimal n
plain_text (Plain.int z) = signed_decimal z
plain_text (Plain.uint n) = decimal n
plain_text (Plain.rank n) = decimal n
plain_text (Plain.proc p) = hex_text p.nspace ++ (codes "/" ++ decimal p.rank)
plain_text (Plain.status z) = signed_decimal z
plain_text (Plain.bytes b) = hex_text b
