-- The reading of frames: the fields in order from the left, and the first fault.
use Rattle.std.specs.Prelude.{ℕ, ◌==◌, ◌&&◌, nat_lt, nat_le, length, Option, Some, None, Result, Ok, if◌then◌else◌}
use Rattle.std.specs.Int.{w32}
use Rattle.pmg_value.specs.declared.refusal.Cause.TheVariants as causes
use Rattle.pmg_value.specs.declared.refusal.Fault.{Fault}
use Rattle.pmg_wire.specs.Fields.{made}
use Rattle.pmg_wire.specs.Reading.{Place, past, front, Read, fault, ◌>>=◌, check, byte_at, number_at}
use Rattle.pmg_frame.specs.FenceReading.{read_header, read_fence_ask, read_commit_ask}
use Rattle.pmg_frame.specs.PieceReading.{read_piece}
use Rattle.pmg_frame.specs.RefreshReading.{read_refresh}
use Rattle.pmg_frame.specs.RunReading.{read_short_header, read_short_ask}
use Rattle.pmg_frame.specs.Versions.{is_version}
use Rattle.pmg_frame.specs.declared.frame.Frame.{Frame}
use Rattle.pmg_frame.specs.declared.frame.Frame.TheVariants as frames
use Rattle.pmg_frame.specs.declared.reading.Head.{Head}
use Rattle.pmg_frame.specs.declared.frame.TheConstants.{MAX_BODY_SIZE}

-- the fields of a body of that version and kind
unfoldable pub read_fields : ℕ → ℕ → Place → Read Frame
read_fields v kind at =
    if kind == 1 then made frames.Piece (read_piece at)
    else if kind == 2 then made frames.Header (if v == 1 then read_header at else read_short_header at)
    else if kind == 3 then made frames.FenceAsk (if v == 1 then read_fence_ask at else read_short_ask at)
    else if kind == 4 then made frames.RangeAsk (read_commit_ask at)
    else if kind == 5 then made frames.DirectAsk (read_commit_ask at)
    else read_refresh at

-- a body: its fields, and nothing after them
unfoldable pub read_frame_body : ℕ → ℕ → Place → Result Frame Fault
read_frame_body v kind at = do
  frame ← read_fields v kind at
  _ ← check (length frame.1.rest == 0) (fault frame.1.offset causes.Long)
  Ok frame.0

-- the head of a frame
unfoldable pub read_head : Place → Read Head
read_head at = do
  version ← byte_at at
  _ ← check (is_version version.0) (fault at.offset causes.Version)
  kind ← byte_at version.1
  _ ← check (nat_lt 0 kind.0 && nat_lt kind.0 7) (fault version.1.offset causes.Kind)
  len ← number_at w32 kind.1
  _ ← check (nat_le len.0 MAX_BODY_SIZE) (fault kind.1.offset causes.Length)
  Ok (record { version = version.0; kind = kind.0; len = len.0 }, len.1)

-- after a head: the whole frame, or nothing while its body is incomplete
unfoldable pub behind_head : Head → Place → Result (Option (Frame × Place)) Fault
behind_head head at =
    if nat_lt (length at.rest) head.len then Ok None
    else (read_frame_body head.version head.kind (front head.len at) >>= λ frame. Ok (Some (frame, past at head.len)))

-- The next frame, or nothing while it is incomplete. The head is checked once its six bytes are there, the body once all of it is there.
unfoldable pub read_frame : Place → Result (Option (Frame × Place)) Fault
read_frame at =
    if nat_lt (length at.rest) 6 then Ok None
    else (read_head (front 6 at) >>= λ head. behind_head head.0 (past at 6))
