-- The contributions in a stream of frames.
use Rattle.std.specs.Prelude.{ℕ, ◌==◌, List, [], ◌∷◌, length, Option, Some, None, Ok, Err, if◌then◌else◌}
use Rattle.std.specs.declared.result.Result.{Result}
use Rattle.pmg_value.specs.declared.refusal.Cause.TheVariants as causes
use Rattle.pmg_value.specs.declared.refusal.Fault.{Fault}
use Rattle.pmg_wire.specs.Reading.{fault, ◌>>=◌}
use Rattle.pmg_commit.specs.Knowledge.{Contribution}
use Rattle.pmg_commit.specs.Data.{Data}
use Rattle.pmg_frame.specs.declared.frame.Frame.{Frame}
use Rattle.pmg_frame.specs.declared.frame.Frame.TheVariants as frames
use Rattle.pmg_frame.specs.Refreshing.{told_by}
use Rattle.pmg_frame.specs.Streams.{stream_said}
use Rattle.pmg_store.specs.Pieces.{data_of}

-- the contribution, if there is one, before the others
abbrev pub with_told : Option Contribution → List Contribution → List Contribution
with_told None cs = cs
with_told (Some c) cs = c ∷ cs

-- the contributions in frames: pieces, and the pieces in refresh replies; any other frame has no contribution
abbrev pub contributions : List Frame → List Contribution
contributions [] = []
contributions (frames.Piece c ∷ fs) = c ∷ contributions fs
contributions (frames.RefreshReply r ∷ fs) = with_told (told_by r) (contributions fs)
contributions (frame ∷ fs) = contributions fs

-- the contributions in the bytes that were read, if all of them are whole frames
abbrev pub told_by_said : List Frame → Option Fault → ℕ → ℕ → Result (List Contribution) Fault
told_by_said fs (Some f) offset left = Err f
told_by_said fs None offset left = if left == 0 then Ok (contributions fs) else Err (fault offset causes.Cut)

-- the contributions in a stream, or its first fault; a stream that ends inside a frame is cut there
unfoldable pub told_in : List ℕ → Result (List Contribution) Fault
told_in bytes = let said = stream_said bytes in told_by_said said.frames said.fault said.end.offset (length said.end.rest)

-- the data of a server that took a stream's contributions
unfoldable pub data_told : List ℕ → Result Data Fault
data_told bytes = told_in bytes >>= λ cs. Ok (data_of cs)
