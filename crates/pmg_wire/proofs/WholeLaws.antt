-- Bytes that are one value, and nothing after it.
use Rattle.std.proofs.Common.{◌≡◌, ℕ, false, ◌==◌, List, [], length, Ok, Err, refl, zero-add, sym, ◌∙◌}
use Rattle.std.proofs.lemmas.List.{append-nil}
use Rattle.pmg_value.specs.Spelling.{spelling}
use Rattle.pmg_value.specs.declared.refusal.Cause.TheVariants as causes
use Rattle.pmg_value.specs.declared.refusal.Refusal.{Refusal}
use Rattle.pmg_value.specs.declared.refusal.Refusal.TheVariants as refusals
use Rattle.pmg_value.specs.declared.value.Value.{Value}
use Rattle.pmg_wire.specs.Fields.{read_value, whole_value}
use Rattle.pmg_wire.specs.Grammar.{IsWholeValue}
use Rattle.pmg_wire.specs.Reading.{Place, FailsReading, fault}
use Rattle.pmg_wire.proofs.FieldLaws.{value_only}
use Rattle.pmg_wire.proofs.Steps.{place}

-- a value's bytes are read as the value, to their end
value_whole : (bytes : List ℕ) (v : Value) → IsWholeValue bytes v → read_value (place 0 bytes) ≡ Ok (v, place (length (spelling v)) [])
value_whole bytes v is = value_only (place 0 bytes) v (place (length (spelling v)) []) (record {
  takes = record { parts = is.text ∙ sym (append-nil (spelling v)); place = sym (zero-add (length (spelling v))) };
  is = is.is;
})

pub whole_only : (bytes : List ℕ) (v : Value) → IsWholeValue bytes v → whole_value bytes ≡ Ok v
unfolding whole_value
whole_only bytes v is = rw (value_whole bytes v is) refl

-- a value with bytes after it
pub whole_behind : (bytes : List ℕ) (v : Value) (end : Place) → read_value (place 0 bytes) ≡ Ok (v, end) → (length end.rest == 0) ≡ false
    → whole_value bytes ≡ Err (fault end.offset causes.Long)
unfolding whole_value
whole_behind bytes v end read empty = rw (read, empty) refl

-- where a value is there, reading has no fault
fails_alike : {X Y : Type 0} (e : Refusal) (x : X) (y : Y) → FailsReading {Y = X} e (Ok x) → FailsReading {Y = Y} e (Ok y)
fails_alike refusals.NoMemory x y h = tt
fails_alike (refusals.BadFrame f) x y h = absurd cc
fails_alike e x y h = absurd h

pub whole_fails : (bytes : List ℕ) (v : Value) (e : Refusal) → IsWholeValue bytes v → FailsReading e (read_value (place 0 bytes)) → FailsReading {Y = Value} e (Ok v)
whole_fails bytes v e is fails = fails_alike e (v, place (length (spelling v)) []) v (rw (value_whole bytes v is) at fails)
