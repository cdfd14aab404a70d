-- The reading of keys, processes and values.
use Rattle.std.specs.Prelude.{ℕ, ◌+◌, ◌-◌, ◌==◌, Bool, ◌&&◌, ◌||◌, not, nat_lt, nat_le, List, length, Option, Some, None, Result, Ok, Err, if◌then◌else◌}
use Rattle.std.specs.Int.{w8, w16, w32, w64, cast_signed}
use Rattle.std.specs.Str.{bytes_eq}
use Rattle.pmg_value.specs.declared.refusal.Cause.TheVariants as causes
use Rattle.pmg_value.specs.declared.process.Proc.{Proc}
use Rattle.pmg_value.specs.declared.value.Value.{Value}
use Rattle.std.specs.List.{position}
use Rattle.pmg_value.specs.declared.refusal.Fault.{Fault}
use Rattle.pmg_value.specs.Blobs.{is_zero}
use Rattle.pmg_value.specs.Elements.{Elements}
use Rattle.pmg_value.specs.Plain.{Plain, is_plain_tag}
use Rattle.pmg_value.specs.Spelling.{Form, value_of}
use Rattle.pmg_value.specs.Names.{is_nspace, is_reserved, is_key}
use Rattle.pmg_value.specs.Process.{host_name, is_client, is_host}
use Rattle.pmg_wire.specs.declared.fields.Admits.{Admits}
use Rattle.pmg_wire.specs.declared.fields.Admits.TheVariants as admits
use Rattle.pmg_wire.specs.Many.{many}
use Rattle.pmg_wire.specs.Reading.{Place, Read, fault, ◌>>=◌, check, read_bytes, byte_at, number_at}
use Rattle.pmg_value.specs.declared.value.TheConstants.{MAX_VALUE_SIZE}
use Rattle.pmg_value.specs.declared.names.TheConstants.{MAX_KEY_LEN}
use Rattle.pmg_value.specs.declared.process.TheConstants.{MAX_RANK}

-- a key: two bytes of length, and the key
unfoldable pub read_key : Place → Read (List ℕ)
read_key at = do
  len ← number_at w16 at
  _ ← check (nat_lt 0 len.0 && nat_le len.0 MAX_KEY_LEN) (fault at.offset causes.Key)
  key ← read_bytes len.0 len.1
  _ ← check (is_key key.0) (fault at.offset causes.Key)
  Ok key

-- a process that the place allows
abbrev pub is_admitted : Admits → Proc → Bool
is_admitted admits.Clients p = is_client p
is_admitted admits.ClientsAndHost p = is_client p || is_host p

-- a namespace that the place allows
abbrev pub is_named : Admits → List ℕ → Bool
is_named admits.Clients name = is_nspace name && not (is_reserved name)
is_named admits.ClientsAndHost name = is_nspace name && (not (is_reserved name) || bytes_eq name host_name)

-- a rank that may follow the namespace
abbrev pub is_ranked : List ℕ → ℕ → Bool
is_ranked name rank = if bytes_eq name host_name then rank == 0 else nat_le rank MAX_RANK

-- a process: one byte of length, the namespace, and four bytes of rank
unfoldable pub read_proc : Admits → Place → Read Proc
read_proc who at = do
  len ← byte_at at
  _ ← check (nat_lt 0 len.0) (fault at.offset causes.Name)
  name ← read_bytes len.0 len.1
  _ ← check (is_named who name.0) (fault at.offset causes.Name)
  rank ← number_at w32 name.1
  _ ← check (is_ranked name.0 rank.0) (fault name.1.offset causes.Rank)
  Ok (record { nspace = name.0; rank = rank.0 }, rank.1)

-- a flag: the byte 0 or 1
unfoldable pub read_flag : Place → Read Bool
read_flag at = do
  byte ← byte_at at
  _ ← check (nat_lt byte.0 2) (fault at.offset causes.Bool)
  Ok (byte.0 == 1, byte.1)

-- a string has no zero byte; given are the index of its first zero byte, if there is one, and the offset of its bytes
abbrev pub check_text : Option ℕ → ℕ → Result (Unit {0}) Fault
check_text None start = Ok tt
check_text (Some i) start = Err (fault (start + i) causes.Text)

-- a string: four bytes of length, and the bytes
unfoldable pub read_text : Place → Read (List ℕ)
read_text at = do
  len ← number_at w32 at
  text ← read_bytes len.0 len.1
  _ ← check_text (position is_zero text.0) len.1.offset
  Ok text

-- a byte object: four bytes of length, and the bytes
unfoldable pub read_blob : Place → Read (List ℕ)
read_blob at = number_at w32 at >>= λ len. read_bytes len.0 len.1

-- any process: one byte of length, the namespace, and four bytes of rank
unfoldable pub read_any_proc : Place → Read Proc
read_any_proc at = do
  len ← byte_at at
  _ ← check (nat_lt 0 len.0) (fault at.offset causes.Name)
  name ← read_bytes len.0 len.1
  _ ← check (is_nspace name.0) (fault at.offset causes.Name)
  rank ← number_at w32 name.1
  Ok (record { nspace = name.0; rank = rank.0 }, rank.1)

-- a thing of that kind, made of what is read
abbrev pub made : {X Y : Type 0} → (X → Y) → Read X → Read Y
made kind read = read >>= λ x. Ok (kind x.0, x.1)

-- what is read is passed over: the place after it, or the first fault
abbrev pub passed : {X : Type 0} → Read X → Read (Unit {0})
passed read = read >>= λ x. Ok (tt, x.1)

-- the body of a value with this tag, which is not an array's tag
unfoldable pub read_plain : ℕ → Place → Read Plain
read_plain tag at =
    if tag == 1 then made Plain.bool (read_flag at)
    else if tag == 2 then made Plain.byte (byte_at at)
    else if tag == 3 then made Plain.string (read_text at)
    else if tag == 4 then made Plain.size (number_at w64 at)
    else if tag == 5 then made (λ n. Plain.int8 (cast_signed w8 n)) (byte_at at)
    else if tag == 6 then made (λ n. Plain.int16 (cast_signed w16 n)) (number_at w16 at)
    else if tag == 7 then made (λ n. Plain.int32 (cast_signed w32 n)) (number_at w32 at)
    else if tag == 8 then made (λ n. Plain.int64 (cast_signed w64 n)) (number_at w64 at)
    else if tag == 9 then made Plain.uint8 (byte_at at)
    else if tag == 10 then made Plain.uint16 (number_at w16 at)
    else if tag == 11 then made Plain.uint32 (number_at w32 at)
    else if tag == 12 then made Plain.uint64 (number_at w64 at)
    else if tag == 13 then made (λ n. Plain.int (cast_signed w32 n)) (number_at w32 at)
    else if tag == 14 then made Plain.uint (number_at w32 at)
    else if tag == 15 then made Plain.rank (number_at w32 at)
    else if tag == 16 then made Plain.proc (read_any_proc at)
    else if tag == 17 then made (λ n. Plain.status (cast_signed w32 n)) (number_at w32 at)
    else made Plain.bytes (read_blob at)

-- the body of an array: the tag of its elements, four bytes of their number, and their bodies
unfoldable pub read_array : Place → Read Elements
read_array at = do
  tag ← byte_at at
  _ ← check (is_plain_tag tag.0) (fault at.offset causes.Tag)
  count ← number_at w32 tag.1
  plains ← many (λ _. read_plain tag.0) count.0 None count.1
  Ok (record { tag = tag.0; plains = plains.0 }, plains.1)

-- the body of a value with this tag
unfoldable pub read_value_body : ℕ → Place → Read Form
read_value_body tag at = if tag == 19 then made Form.array (read_array at) else made Form.plain (read_plain tag at)

-- a value: its tag and its body, and then its length
unfoldable pub read_value : Place → Read Value
read_value at = do
  tag ← byte_at at
  _ ← check (nat_lt 0 tag.0 && nat_lt tag.0 20) (fault at.offset causes.Tag)
  body ← read_value_body tag.0 tag.1
  _ ← check (nat_le (body.1.offset - at.offset) MAX_VALUE_SIZE) (fault at.offset causes.Size)
  Ok (value_of body.0, body.1)

-- bytes that are one value, and nothing after it
unfoldable pub whole_value : List ℕ → Result Value Fault
whole_value bytes = do
  value ← read_value (record { offset = 0; rest = bytes })
  _ ← check (length value.1.rest == 0) (fault value.1.offset causes.Long)
  Ok value.0
