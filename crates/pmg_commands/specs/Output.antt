-- The output of a command, and its status at the end.
use Rattle.std.specs.Prelude.{◌≡◌, ℕ, List, [], ◌++◌, ◌⊎◌, codes, decimal, Ok, Err, IfSome, IsSome, MatchOption}
use Rattle.std.specs.declared.option.Option.{Option}
use Rattle.std.specs.declared.result.Result.{Result}
use Rattle.std.specs.Io.KnownBytes.{Appends}
use Rattle.pmg_value.specs.declared.refusal.Fault.{Fault}
use Rattle.pmg_value.specs.declared.refusal.Refusal.{Refusal}
use Rattle.pmg_value.specs.declared.refusal.Refusal.TheVariants.{NoMemory, BadFrame}
use Rattle.pmg_value.specs.RefusalText.{refusal_text}
use Rattle.pmg_value.specs.Written.{AppendsFront}
use Rattle.pmg_store.specs.declared.failure.Failure.{Failure}
use Rattle.pmg_store.specs.declared.failure.Failure.TheVariants.{Refused, InStream, Read, Write}

-- a status, and the printed bytes
pub record Output : Type 0 where
  pub status : ℕ
  pub printed : List ℕ

-- the statuses of a command
abbrev pub IsStatus : ℕ → Type 0
IsStatus status = (status ≡ 0) ⊎ (status ≡ 1) ⊎ (status ≡ 3)

-- 3 if an allocation failed, and else 1
abbrev pub failure_status : Failure → ℕ
failure_status (Refused NoMemory) = 3
failure_status _ = 1

-- the line of a refusal
unfoldable pub refusal_line : Refusal → List ℕ
refusal_line refusal = codes "refused " ++ refusal_text refusal ++ codes "\n"

-- the number of a stream, after its fault
unfoldable pub in_stream : ℕ → List ℕ
in_stream stream = codes " in stream " ++ decimal stream ++ codes "\n"

-- the line of a stream's fault, with the stream's number
unfoldable pub stream_line : ℕ → Fault → List ℕ
stream_line stream fault = codes "refused " ++ refusal_text (BadFrame fault) ++ in_stream stream

-- the line of a failure; empty if the writer failed
unfoldable pub failure_line : Failure → List ℕ
failure_line (Refused refusal) = refusal_line refusal
failure_line (InStream stream fault) = stream_line stream fault
failure_line Read = codes "read fault\n"
failure_line Write = []

-- the output for a failure
abbrev pub failure_output : Failure → Output
failure_output failure = record { status = failure_status failure; printed = failure_line failure }

-- a status, with nothing to print
abbrev pub status_alone : ℕ → Output
status_alone status = record { status = status; printed = [] }

-- the output that remains at the end of a command
abbrev pub outcome_output : {T : Type 0} → Result T Failure → Output
outcome_output (Ok done) = status_alone 0
outcome_output (Err failure) = failure_output failure

-- a text is printed with status 0, a failure as a failure
abbrev pub output_of : Result (List ℕ) Failure → Output
output_of (Ok text) = record { status = 0; printed = text }
output_of (Err failure) = failure_output failure

-- The output is printed, with its status. If the writer failed, a prefix of the output is printed, and the status is 1.
abbrev pub Prints : {E : Type 0} → Option (List ℕ) → Option (List ℕ) → Option E → ℕ → Output → Type 0
Prints old new failure status output =
    MatchOption failure ((status ≡ output.status) × Appends old new output.printed)
    (λ _. (status ≡ 1) × AppendsFront old new output.printed)

-- The due output is printed; or the output of a failed allocation; or, if the reader failed, the output of a read fault.
abbrev pub PrintsDue : {D E : Type 0} → Option (List ℕ) → Option (List ℕ) → Option D → Option E → ℕ → Output → Type 0
PrintsDue old new read_failure write_failure status due =
    Prints old new write_failure status due
    ⊎ (Prints old new write_failure status (failure_output (Refused NoMemory))
    ⊎ (IsSome read_failure × Prints old new write_failure status (failure_output Read)))

-- If the text to be read is known, its due output is printed, as `PrintsDue` says.
abbrev pub PrintsFor : {D E : Type 0} → Option (List ℕ) → Option (List ℕ) → Option (List ℕ) → Option D → Option E → ℕ → (List ℕ → Output) → Type 0
PrintsFor known old new read_failure write_failure status due = IfSome known (λ text. PrintsDue old new read_failure write_failure status (due text))

-- A failure of the reader is reported in any case: if it has failed, and had not failed before, the output of a read fault is printed.
abbrev pub TellsReadFault : {D E : Type 0} → Option (List ℕ) → Option (List ℕ) → Option D → Option D → Option E → ℕ → Type 0
TellsReadFault old new before now write_failure status =
    IsSome now → IsSome before ⊎ Prints old new write_failure status (failure_output Read)
