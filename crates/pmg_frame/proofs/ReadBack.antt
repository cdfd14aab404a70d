-- What is encoded is read back.
use Rattle.std.proofs.Common.{◌≡◌, ℕ, ◌≤◌, false, List, length, Result, Ok, Err, IsTrue, subst}
use Rattle.std.specs.Prelude.{OnOk, IfOk}
use Rattle.std.proofs.lemmas.Result.{on_ok_weaker}
use Rattle.pmg_wire.specs.Reading.{Takes}
use Rattle.pmg_frame.specs.declared.frame.Frame.{Frame}
use Rattle.pmg_frame.specs.Frames.{ReadsBack}
use Rattle.pmg_frame.specs.Grammar.{IsFrame, has_entries}
use Rattle.pmg_frame.specs.Versions.{is_version, body_spelling, frame_spelling}
use Rattle.pmg_frame.proofs.FrameLaws.{frame_only}
use Rattle.pmg_frame.proofs.HeaderTests.{are_fitting}

-- headers and asks that are encoded fit into a frame
pub fits : {X E : Type 0} (v : ℕ) (frame : Frame) (r : Result X E) → has_entries frame ≡ false → OnOk r (IsFrame frame) → OnOk r (length (body_spelling v frame) ≤ 16777216)
fits v frame r few valid = on_ok_weaker r (λ is. are_fitting v frame is few) valid

-- the bytes of a frame that fits are read back as the frame
pub reads_back : {X E : Type 0} (v : ℕ) (frame : Frame) (items : X → List ℕ) (r : Result X E) → IsTrue (is_version v) → IfOk r (λ x. items x ≡ frame_spelling v frame)
    → OnOk r (IsFrame frame) → OnOk r (length (body_spelling v frame) ≤ 16777216) → IfOk r (λ x. ReadsBack frame (items x))
reads_back v frame items (Ok x) known bytes valid small = λ at after t.
    frame_only v at frame after (record { version = known; takes = subst (λ (text : List ℕ). Takes at text after) bytes t; small = small; is = valid })
reads_back v frame items (Err e) known bytes valid small = tt

-- the same of headers and asks, which fit
pub fits_back : {X E : Type 0} (v : ℕ) (frame : Frame) (items : X → List ℕ) (r : Result X E) → IsTrue (is_version v) → IfOk r (λ x. items x ≡ frame_spelling v frame) → OnOk r (IsFrame frame)
    → has_entries frame ≡ false → IfOk r (λ x. ReadsBack frame (items x))
fits_back v frame items r known bytes valid few = reads_back v frame items r known bytes valid (fits v frame r few valid)
