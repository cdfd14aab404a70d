use Rattle.std.proofs.Common.{length}
use Rattle.pmg_store.proofs.ToldLemmas.{IsTakenTo}
use Rattle.pmg_store.proofs.stream.take_stream.Given as goal

-- the contributions of the frames up to here are taken
abbrev pub invariant-loop-frame : goal.invariant-loop-frame
invariant-loop-frame l = IsTakenTo l.bytes l.fn.store l.at l.store

abbrev pub decreases-loop-frame : goal.decreases-loop-frame
decreases-loop-frame l = length l.at.rest
