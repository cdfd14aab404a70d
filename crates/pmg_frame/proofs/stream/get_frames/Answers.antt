use Rattle.pmg_frame.proofs.Cuts.{runs_none, runs_push, moves_on}
use Rattle.pmg_frame.proofs.stream.get_frames.Goals as goal

pub loop-frame-init : goal.loop-frame-init
loop-frame-init c = rw c.new-frames.ensures.items (runs_none c.args.at.now)

pub loop-frame-smaller : goal.loop-frame-smaller
loop-frame-smaller c = moves_on c.loop-frame.at c.in-Ok-Some.frame c.get_frame.new.at (rw c.in-Ok-Some.field-0-is at c.in-Ok-Some.ensures)

pub loop-frame-preserved : goal.loop-frame-preserved
loop-frame-preserved c =
    rw c.in_ok-push-in-Ok-Some.ensures.items
    (runs_push c.args.at.now c.loop-frame.frames.items c.loop-frame.at c.in-Ok-Some.frame c.get_frame.new.at c.loop-frame.invariant (rw c.in-Ok-Some.field-0-is at c.in-Ok-Some.ensures))
