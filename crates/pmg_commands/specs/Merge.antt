-- The command `merge`.
use Rattle.std.specs.Prelude.{ℕ, ◌+◌, ◌-◌, Bool, ◌||◌, nat_lt, List, [], ◌∷◌, length, take, drop, codes, Ok, Err, if◌then◌else◌}
use Rattle.std.specs.Str.{bytes_eq}
use Rattle.std.specs.declared.result.Result.{Result}
use Rattle.bstr.specs.Text.{lines_of}
use Rattle.pmg_value.specs.declared.refusal.Fault.{Fault}
use Rattle.pmg_value.specs.declared.refusal.Refusal.TheVariants.{BadFrame}
use Rattle.pmg_wire.specs.Reading.{fault, ◌>>=◌}
use Rattle.pmg_store.specs.declared.failure.Failure.{Failure}
use Rattle.pmg_store.specs.declared.failure.Failure.TheVariants.{Refused}
use Rattle.pmg_store.specs.Input.{input_of}
use Rattle.pmg_store.specs.Merged.{merge_of, too_many}
use Rattle.pmg_commands.specs.Output.{Output, output_of}
use Rattle.pmg_commands.specs.Text.{decoded}
use Rattle.pmg_store.specs.declared.merge.TheConstants.{MAX_STREAMS}

-- a line `--`, with its ending: LF, CR and LF, a CR at the end of the input, or no ending there
abbrev pub is_separator : List ℕ → Bool
is_separator line =
    bytes_eq line (codes "--\n") || (bytes_eq line (codes "--") || (bytes_eq line (codes "--\r\n") || bytes_eq line (codes "--\r")))

-- the place of a stream's text in the input
pub record Span : Type 0 where
  pub start : ℕ
  pub end : ℕ

-- the text from start to end
abbrev pub span : ℕ → ℕ → Span
span start end = record { start = start; end = end }

-- The texts of the streams, if the first one has begun at a start and goes on at an end. A text ends before its separator, and the next
-- text begins after it.
abbrev pub spans_from : ℕ → ℕ → List (List ℕ) → List Span
spans_from start end [] = span start end ∷ []
spans_from start end (line ∷ lines) =
    if is_separator line then span start end ∷ spans_from (end + length line) (end + length line) lines
    else spans_from start (end + length line) lines

-- the texts of the streams of an input
abbrev pub spans_of : List ℕ → List Span
spans_of text = spans_from 0 0 (lines_of text)

-- the text of a stream
abbrev pub text_at : List ℕ → Span → List ℕ
text_at text s = take (s.end - s.start) (drop s.start text)

-- a fault's offset counts from the start of the whole input
abbrev pub moved : ℕ → Result (List ℕ) Fault → Result (List ℕ) Fault
moved start (Ok bytes) = Ok bytes
moved start (Err f) = Err (fault (start + f.offset) f.cause)

-- the bytes that the text of a stream spells, or its first fault
abbrev pub decoded_at : List ℕ → Span → Result (List ℕ) Fault
decoded_at text s = moved s.start (decoded (text_at text s))

-- the bytes of each stream, or the first fault of the first faulty text
abbrev pub decoded_all : List ℕ → List Span → Result (List (List ℕ)) Fault
decoded_all text [] = Ok []
decoded_all text (s ∷ ss) = decoded_at text s >>= λ bytes. decoded_all text ss >>= λ others. Ok (bytes ∷ others)

-- the next result, unless there is such a fault
abbrev pub unless_fault : {X Y : Type 0} → Result X Fault → (X → Result Y Failure) → Result Y Failure
unless_fault (Ok x) next = next x
unless_fault (Err f) next = Err (Refused (BadFrame f))

-- the dump of the streams with these texts: if there are more than 64, no stream is decoded, and all are decoded before any is read
unfoldable pub spans_merge : List ℕ → List Span → Result (List ℕ) Failure
spans_merge text spans = if nat_lt MAX_STREAMS (length spans) then Err too_many else unless_fault (decoded_all text spans) merge_of

-- the dump of the streams that an input holds
unfoldable pub merge_text : List ℕ → Result (List ℕ) Failure
merge_text text = unless_fault (input_of text) λ kept. spans_merge kept (spans_of kept)

-- the output of `merge` for a text
abbrev pub merge_output : List ℕ → Output
merge_output text = output_of (merge_text text)
