-- The answers of a call that reads and writes, against the answer that is due.
use Rattle.std.specs.Prelude.{◌≡◌, ◌⊎◌, ℕ, List, MatchResult, Ok, Err}
use Rattle.std.specs.declared.option.Option.{Option}
use Rattle.std.specs.declared.result.Result.{Result}
use Rattle.std.specs.Io.KnownBytes.{Appends, Keeps}
use Rattle.pmg_value.specs.declared.refusal.Fault.{Fault}
use Rattle.pmg_value.specs.declared.refusal.Refusal.TheVariants.{NoMemory, BadFrame}
use Rattle.pmg_value.specs.Written.{AppendsFront}
use Rattle.pmg_store.specs.declared.failure.Failure.{Failure}
use Rattle.pmg_store.specs.declared.failure.Failure.TheVariants.{Refused, Read, Write}

-- a fault is refused
abbrev pub or_failure : {Y : Type 0} → Result Y Fault → Result Y Failure
or_failure (Ok y) = Ok y
or_failure (Err fault) = Err (Refused (BadFrame fault))

-- Any allocation may fail, and any reader may fail. A separate clause at each call states that it failed.
abbrev pub CanAlwaysCome : Failure → Type 0
CanAlwaysCome failure = (failure ≡ Refused NoMemory) ⊎ (failure ≡ Read)

-- the failure is the one that is due, or one that can always come
abbrev pub FailsInput : {Y : Type 0} → Failure → Result Y Failure → Type 0
FailsInput failure due = CanAlwaysCome failure ⊎ (due ≡ Err failure)

-- the answer, seen by view, is the one that is due
abbrev pub GivesInput : {X Y : Type 0} → (X → Y) → Result X Failure → Result Y Failure → Type 0
GivesInput view result due = MatchResult result (λ value. due ≡ Ok (view value)) (λ failure. FailsInput failure due)

-- a call that failed wrote nothing; or the writer failed, after a prefix of the text that is due
abbrev pub Stops : Option (List ℕ) → Option (List ℕ) → Failure → Result (List ℕ) Failure → Type 0
Stops old new failure due =
    (FailsInput failure due × Keeps old new) ⊎ ((failure ≡ Write) × MatchResult due (λ text. AppendsFront old new text) (λ _. ⊥))

-- a text is due, and was written
abbrev pub WritesDue : Option (List ℕ) → Option (List ℕ) → Result (List ℕ) Failure → Type 0
WritesDue old new due = MatchResult due (λ text. Appends old new text) (λ _. ⊥)

-- a call that succeeded wrote the text that is due
abbrev pub Dumps : {T : Type 0} → Option (List ℕ) → Option (List ℕ) → Result T Failure → Result (List ℕ) Failure → Type 0
Dumps old new result due = MatchResult result (λ _. WritesDue old new due) (λ failure. Stops old new failure due)
