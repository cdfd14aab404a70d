-- A stream of frames, in any pieces.
use Rattle.std.specs.Prelude.{◌≡◌, ℕ, zero, suc, ◌+◌, ◌≤◌, ◌^◌, ◌⊎◌, ◌==◌, if◌then◌else◌, List, [], ◌∷◌, ◌++◌, length, map, Option, Some, None, Result, Ok, Err}
use Rattle.std.specs.List.{flat_map}
use Rattle.pmg_value.specs.Lists.{Each}
use Rattle.pmg_value.specs.declared.refusal.Fault.{Fault}
use Rattle.pmg_value.specs.declared.refusal.Cause.TheVariants as causes
use Rattle.pmg_value.specs.declared.refusal.Refusal.{Refusal}
use Rattle.pmg_value.specs.declared.refusal.Refusal.TheVariants as refusals
use Rattle.pmg_wire.specs.Reading.{Place, fault, IsBytes, Takes}
use Rattle.pmg_frame.specs.declared.frame.Frame.{Frame}
use Rattle.pmg_frame.specs.Grammar.{IsSpelt}
use Rattle.pmg_frame.specs.Reading.{read_frame}
use Rattle.pmg_frame.specs.Versions.{Spelt, spelt_text}

-- from a place on, these complete frames follow one another, up to a later place
unfoldable pub FramesFollow : Place → List Frame → Place → Type 0
FramesFollow at [] end = end ≡ at
FramesFollow at (frame ∷ others) end = (mid : Place) × (read_frame at ≡ Ok (Some (frame, mid))) × FramesFollow mid others end

-- at that place no complete frame follows: without a fault yet, or with this one
abbrev pub StopsAt : Place → Option Fault → Type 0
StopsAt end None = read_frame end ≡ Ok None
StopsAt end (Some f) = read_frame end ≡ Err f

-- the place, with more bytes
abbrev pub more_at : Place → List ℕ → Place
more_at at bytes = record { offset = at.offset; rest = at.rest ++ bytes }

-- A stream keeps the place of the next frame's bytes so far. After a fault it is closed, and keeps no place.
abbrev pub left_after : Option Fault → Place → Option Place
left_after None end = Some end
left_after (Some f) end = None

-- A stream that kept a place was fed bytes. These frames are complete now, and after them comes a fault or no complete frame yet.
pub record Feeds (at : Place) (bytes : List ℕ) (frames : List Frame) (fault : Option Fault) (new : Option Place) : Type 0 where
  pub end : Place
  pub runs : FramesFollow (more_at at bytes) frames end
  pub stops : StopsAt end fault
  pub left : new ≡ left_after fault end

-- an open stream was fed
abbrev pub FeedsOpen : Option Place → List ℕ → List Frame → Option Fault → Option Place → Type 0
FeedsOpen None bytes frames fault new = ⊥
FeedsOpen (Some at) bytes frames fault new = Feeds at bytes frames fault new

-- the bytes would pass the greatest offset
abbrev pub IsPastEnd : Option Place → List ℕ → Type 0
IsPastEnd None bytes = ⊥
IsPastEnd (Some at) bytes = 2 ^ 64 ≤ at.offset + length at.rest + length bytes

-- the refusals of a feed
abbrev pub IsFeedRefusal : Refusal → Type 0
IsFeedRefusal e = (e ≡ refusals.NoMemory) ⊎ ((e ≡ refusals.TooMany) ⊎ (e ≡ refusals.Closed))

-- at the end of a stream: nothing is left over, or the incomplete frame is cut
abbrev pub finished : Option Place → Result (Unit {0}) Refusal
finished None = Err refusals.Closed
finished (Some at) = if length at.rest == 0 then Ok tt else Err (refusals.BadFrame (fault at.offset causes.Cut))

-- The content of a stream's bytes: these frames, encoded one after another, each in its version, and then a fault or an incomplete frame.
pub record Says (at : Place) (frames : List Frame) (fault : Option Fault) (end : Place) : Type 0 where
  pub spelt : List Spelt
  pub are_those : map (λ s. s.frame) spelt ≡ frames
  pub takes : Takes at (flat_map spelt_text spelt) end
  pub are : Each IsSpelt spelt
  pub stops : StopsAt end fault

-- the result of reading from a place on: the complete frames, the fault after them if there is one, and where they end
pub record StreamSaid : Type 0 where
  pub frames : List Frame
  pub fault : Option Fault
  pub end : Place

-- a frame, and then the rest of the result
abbrev pub said_behind : Frame → StreamSaid → StreamSaid
said_behind frame said = record { frames = frame ∷ said.frames; fault = said.fault; end = said.end }

-- the result at a place, where `after` gives the result after a frame
abbrev pub said_at : Place → (Place → StreamSaid) → Result (Option (Frame × Place)) Fault → StreamSaid
said_at at behind (Err f) = record { frames = []; fault = Some f; end = at }
said_at at behind (Ok None) = record { frames = []; fault = None; end = at }
said_at at behind (Ok (Some next)) = said_behind next.0 (behind next.1)

-- The result of reading from a place on, at most so many frames.
unfoldable pub said_from : ℕ → Place → StreamSaid
said_from zero at = record { frames = []; fault = None; end = at }
said_from (suc n) at = said_at at (said_from n) (read_frame at)

-- The result of reading the bytes of a whole stream. There are no more frames than bytes.
abbrev pub stream_said : List ℕ → StreamSaid
stream_said bytes = said_from (suc (length bytes)) (record { offset = 0; rest = bytes })

-- the result of reading a whole stream is the content of its bytes
abbrev pub IsSaid : Type 0
IsSaid = (bytes : List ℕ) → IsBytes bytes → Says (record { offset = 0; rest = bytes }) (stream_said bytes).frames (stream_said bytes).fault (stream_said bytes).end

-- two feeds in a row are one feed of both
abbrev pub FeedsJoin : Type 0
FeedsJoin = (at mid : Place) (a b : List ℕ) (fs gs : List Frame) (fault : Option Fault) (new : Option Place)
    → Feeds at a fs None (Some mid) → Feeds mid b gs fault new → Feeds at (a ++ b) (fs ++ gs) fault new

-- after a fault more bytes change nothing
abbrev pub StaysClosed : Type 0
StaysClosed = (at : Place) (a b : List ℕ) (fs : List Frame) (f : Fault) → Feeds at a fs (Some f) None → Feeds at (a ++ b) fs (Some f) None

-- equal frames, equal faults, and equal rests
pub record SameFeed (fs gs : List Frame) (f g : Option Fault) (new other : Option Place) : Type 0 where
  pub frames : fs ≡ gs
  pub fault : f ≡ g
  pub left : new ≡ other

-- the bytes determine the frames, the fault and the rest
abbrev pub IsDetermined : Type 0
IsDetermined = (at : Place) (bytes : List ℕ) (fs gs : List Frame) (f g : Option Fault) (new other : Option Place)
    → Feeds at bytes fs f new → Feeds at bytes gs g other → SameFeed fs gs f g new other

-- a feed finds the content of the bytes
abbrev pub AreSpelled : Type 0
AreSpelled = (at : Place) (bytes : List ℕ) (fs : List Frame) (fault : Option Fault) (new : Option Place)
    → IsBytes (at.rest ++ bytes) → (fed : Feeds at bytes fs fault new) → Says (more_at at bytes) fs fault fed.end

-- the content of the bytes is found by a feed
abbrev pub AreFound : Type 0
AreFound = (at end : Place) (bytes : List ℕ) (fs : List Frame) (fault : Option Fault)
    → Says (more_at at bytes) fs fault end → Feeds at bytes fs fault (left_after fault end)
