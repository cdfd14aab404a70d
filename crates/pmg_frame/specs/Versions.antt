-- The encoding of frames: each has one in each version.
use Rattle.std.specs.Prelude.{ℕ, Bool, ◌==◌, ◌||◌, if◌then◌else◌, List, ◌∷◌, ◌++◌, length}
use Rattle.std.specs.Int.{w32, to_be_bytes}
use Rattle.pmg_frame.specs.RunSpelling.{short_header, short_fence_ask}
use Rattle.pmg_frame.specs.Spelling.{piece_body, header_body, fence_ask_body, commit_ask_body, refresh_ask_body, refresh_reply_body}
use Rattle.pmg_frame.specs.declared.frame.Frame.{Frame}
use Rattle.pmg_frame.specs.declared.frame.Frame.TheVariants as frames

-- the versions of frames
abbrev pub is_version : ℕ → Bool
is_version v = v == 1 || v == 2

-- the number of a frame's kind
abbrev pub kind_of : Frame → ℕ
kind_of (frames.Piece c) = 1
kind_of (frames.Header h) = 2
kind_of (frames.FenceAsk a) = 3
kind_of (frames.RangeAsk a) = 4
kind_of (frames.DirectAsk a) = 5
kind_of (frames.RefreshAsk a) = 6
kind_of (frames.RefreshReply r) = 6

-- a frame's body; from version 2 on the processes of a fence are written as runs
abbrev pub body_spelling : ℕ → Frame → List ℕ
body_spelling v (frames.Piece c) = piece_body c
body_spelling v (frames.Header h) = if v == 1 then header_body h else short_header h
body_spelling v (frames.FenceAsk a) = if v == 1 then fence_ask_body a else short_fence_ask a
body_spelling v (frames.RangeAsk a) = commit_ask_body a
body_spelling v (frames.DirectAsk a) = commit_ask_body a
body_spelling v (frames.RefreshAsk a) = refresh_ask_body a
body_spelling v (frames.RefreshReply r) = refresh_reply_body r

-- a frame's head: the version, the kind, and the length of the body
abbrev pub head_spelling : ℕ → ℕ → ℕ → List ℕ
head_spelling v kind len = v ∷ kind ∷ to_be_bytes w32 len

-- a frame: its head and its body
abbrev pub frame_spelling : ℕ → Frame → List ℕ
frame_spelling v frame = head_spelling v (kind_of frame) (length (body_spelling v frame)) ++ body_spelling v frame

-- a frame, and the version of its encoding
pub record Spelt : Type 0 where
  pub version : ℕ
  pub frame : Frame

-- its encoding
abbrev pub spelt_text : Spelt → List ℕ
spelt_text s = frame_spelling s.version s.frame
