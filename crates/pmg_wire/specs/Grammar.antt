-- The grammar: what is between two places of the bytes.
use Rattle.std.specs.Prelude.{◌≡◌, ℕ, List, ◌++◌, Ok, IsTrue}
use Rattle.pmg_value.specs.declared.process.Proc.{Proc}
use Rattle.pmg_value.specs.declared.value.Value.{Value}
use Rattle.pmg_value.specs.Names.{is_nspace, is_key}
use Rattle.pmg_value.specs.Spelling.{spelling, IsValue}
use Rattle.pmg_wire.specs.declared.fields.Admits.{Admits}
use Rattle.pmg_wire.specs.Fields.{is_admitted, read_value}
use Rattle.pmg_wire.specs.Reading.{Place, Takes, IsBytes}
use Rattle.pmg_wire.specs.Spelling.{key_spelling, proc_spelling}

-- the encoding of a key
pub record SpellsKey (at : Place) (key : List ℕ) (after : Place) : Type 0 where
  pub takes : Takes at (key_spelling key) after
  pub is : IsTrue (is_key key)

-- the encoding of a process that the place allows
pub record SpellsProc (who : Admits) (at : Place) (p : Proc) (after : Place) : Type 0 where
  pub takes : Takes at (proc_spelling p) after
  pub name : IsTrue (is_nspace p.nspace)
  pub admitted : IsTrue (is_admitted who p)

-- the encoding of a value
pub record SpellsValue (at : Place) (v : Value) (after : Place) : Type 0 where
  pub takes : Takes at (spelling v) after
  pub is : IsValue v

-- these bytes are the encoding of that value
pub record IsWholeValue (bytes : List ℕ) (v : Value) : Type 0 where
  pub text : bytes ≡ spelling v
  pub is : IsValue v

-- a value that is read is encoded so
abbrev pub IsFound : Type 0
IsFound = (at : Place) (v : Value) (after : Place) → IsBytes at.rest → read_value at ≡ Ok (v, after) → SpellsValue at v after

-- an encoded value is read
abbrev pub IsOnly : Type 0
IsOnly = (at : Place) (v : Value) (after : Place) → SpellsValue at v after → read_value at ≡ Ok (v, after)

-- no value's encoding is a prefix of another's
abbrev pub IsOneSpelling : Type 0
IsOneSpelling = (v w : Value) (x y : List ℕ) → IsValue v → IsValue w → spelling v ++ x ≡ spelling w ++ y → (v ≡ w) × (x ≡ y)
