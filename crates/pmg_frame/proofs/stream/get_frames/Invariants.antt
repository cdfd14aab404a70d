use Rattle.std.proofs.Common.{length}
use Rattle.pmg_frame.specs.Streams.{FramesFollow}
use Rattle.pmg_frame.proofs.stream.get_frames.Given as goal

-- the frames so far follow one another up to here
abbrev pub invariant-loop-frame : goal.invariant-loop-frame
invariant-loop-frame l = FramesFollow l.fn.at l.frames.items l.at

abbrev pub decreases-loop-frame : goal.decreases-loop-frame
decreases-loop-frame l = length l.at.rest
