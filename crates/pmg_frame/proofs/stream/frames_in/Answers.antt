use Rattle.std.proofs.Common.{subst, arith}
use Rattle.pmg_wire.specs.Reading.{Place, IsBytes}
use Rattle.pmg_frame.specs.Streams.{FramesFollow, StopsAt}
use Rattle.pmg_frame.proofs.Cuts.{IsEnd, runs_end}
use Rattle.pmg_frame.proofs.stream.frames_in.Goals as goal

-- what is left, as the cursor says
end_of : (c : goal.After-rest) → IsEnd c.args.offset c.args.held.now c.get_frames.new.at
end_of c =
    let fits : IsBytes c.args.held.now = λ i. omega (arith, c.type_inv.held i) in
    runs_end c.args.offset c.args.held.now c.in_ok-fed.fed.frames.items c.get_frames.new.at fits (rw c.new-at.ensures at c.in_ok-fed.ensures.runs)

pub overflow_sub-used : goal.overflow_sub-used
overflow_sub-used c = rw c.rest.ensures (end_of c).fewer

pub returns-clause-runs : goal.returns-clause-runs
returns-clause-runs c =
    rw c.rest.ensures (subst (λ (x : Place). FramesFollow (record { offset = c.args.offset; rest = c.args.held.now }) c.in_ok-fed.fed.frames.items x) (end_of c).is (rw c.new-at.ensures at c.in_ok-fed.ensures.runs))

pub returns-clause-stops : goal.returns-clause-stops
returns-clause-stops c = rw c.rest.ensures (subst (λ (x : Place). StopsAt x c.in_ok-fed.fed.fault) (end_of c).is c.in_ok-fed.ensures.stops)
