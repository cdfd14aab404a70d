-- The result of reading one frame.
use Rattle.std.specs.Prelude.{◌≡◌, ℕ, List, Option, Some, None, Result, Ok, Err}
use Rattle.pmg_value.specs.declared.refusal.Refusal.{Refusal}
use Rattle.pmg_wire.specs.Reading.{Place, Takes, FailsReading}
use Rattle.pmg_frame.specs.declared.frame.Frame.{Frame}
use Rattle.pmg_frame.specs.Reading.{read_frame}

-- The next frame and the place after it; nothing, and the place as it was, while the frame is incomplete; or the first fault, and the place
-- as it was.
abbrev pub ReadsFrame : Result (Option Frame) Refusal → Place → Place → Type 0
ReadsFrame (Ok (Some frame)) old new = read_frame old ≡ Ok (Some (frame, new))
ReadsFrame (Ok None) old new = (read_frame old ≡ Ok None) × (new ≡ old)
ReadsFrame (Err e) old new = FailsReading e (read_frame old) × (new ≡ old)

-- Wherever these bytes are, and whatever is after them, the next frame that is read is this one, and reading goes on after them.
abbrev pub ReadsBack : Frame → List ℕ → Type 0
ReadsBack frame bytes = (at after : Place) → Takes at bytes after → read_frame at ≡ Ok (Some (frame, after))
