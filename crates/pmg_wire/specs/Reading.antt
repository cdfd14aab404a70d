-- Reading fields from bytes, left to right, with the first fault and its offset.
use Rattle.std.specs.Prelude.{◌≡◌, ℕ, ◌+◌, ◌<◌, Bool, true, false, nat_lt, List, ◌++◌, length, get_or, take, drop, Result, Ok, Err, if◌then◌else◌}
use Rattle.std.specs.Int.{Width, byte_len, from_be_bytes}
use Rattle.pmg_value.specs.declared.refusal.Cause.{Cause}
use Rattle.pmg_value.specs.declared.refusal.Cause.TheVariants as causes
use Rattle.pmg_value.specs.declared.refusal.Fault.{Fault}
use Rattle.pmg_value.specs.declared.refusal.Refusal.{Refusal}
use Rattle.pmg_value.specs.declared.refusal.Refusal.TheVariants as refusals

-- a position of a reader: the offset in the whole, and the bytes that are left
pub record Place : Type 0 where
  pub offset : ℕ
  pub rest : List ℕ

-- the place n bytes on
abbrev pub past : Place → ℕ → Place
past at n = record { offset = at.offset + n; rest = drop n at.rest }

-- only the next n bytes
abbrev pub front : ℕ → Place → Place
front n at = record { offset = at.offset; rest = take n at.rest }

-- a fault at an offset
abbrev pub fault : ℕ → Cause → Fault
fault offset cause = record { offset = offset; cause = cause }

-- the result of reading a field: the field and the place after it, or the first fault
abbrev pub Read : Type 0 → Type 0
Read X = Result (X × Place) Fault

-- one step of reading, then the next
infixl 10 ◌>>=◌
abbrev pub ◌>>=◌ : {A B : Type 0} → Result A Fault → (A → Result B Fault) → Result B Fault
(Ok x) >>= f = f x
(Err e) >>= f = Err e

-- a rule that a field has to keep
abbrev pub check : Bool → Fault → Result (Unit {0}) Fault
check true f = Ok tt
check false f = Err f

-- the next n bytes: one field
unfoldable pub read_bytes : ℕ → Place → Read (List ℕ)
read_bytes n at = if nat_lt (length at.rest) n then Err (fault at.offset causes.Short) else Ok (take n at.rest, past at n)

-- one byte
abbrev pub byte_at : Place → Read ℕ
byte_at at = read_bytes 1 at >>= λ b. Ok (get_or b.0 0 0, b.1)

-- a big-endian number of that width
abbrev pub number_at : Width → Place → Read ℕ
number_at w at = read_bytes (byte_len w) at >>= λ b. Ok (from_be_bytes w b.0, b.1)

-- each item is a byte
abbrev pub IsBytes : List ℕ → Type 0
IsBytes bytes = (i : ℕ) → get_or bytes i 0 < 256

-- Reading fails with this refusal. NoMemory is left open; any other refusal of a reader is a fault.
abbrev pub FailsReading : {Y : Type 0} → Refusal → Result Y Fault → Type 0
FailsReading refusals.NoMemory read = Unit {0}
FailsReading (refusals.BadFrame f) read = read ≡ Err f
FailsReading e read = ⊥

-- A reader's answer, seen by view, and the position of its cursor are the result of reading, unless memory ran out.
abbrev pub Reads : {X Y : Type 0} → (X → Y) → Result X Refusal → Place → Read Y → Type 0
Reads view (Ok x) new read = read ≡ Ok (view x, new)
Reads view (Err e) new read = FailsReading e read

-- This text is between one place and a later one.
pub record Takes (at : Place) (text : List ℕ) (after : Place) : Type 0 where
  pub parts : at.rest ≡ text ++ after.rest
  pub place : after.offset ≡ at.offset + length text

-- The answer of a reader of all the bytes, seen by view, is the result of reading, unless memory ran out.
abbrev pub ReadsAll : {X Y : Type 0} → (X → Y) → Result X Refusal → Result Y Fault → Type 0
ReadsAll view (Ok x) read = read ≡ Ok (view x)
ReadsAll view (Err e) read = FailsReading e read
