use Rattle.pmg_frame.specs.Runs.{local_ranks}
use Rattle.pmg_frame.proofs.RunEnds.{GoesOn}
use Rattle.pmg_frame.proofs.local_run_writing.run_end.Given as goal

-- so far the run goes on
abbrev pub invariant-loop-i : goal.invariant-loop-i
invariant-loop-i l = GoesOn local_ranks l.locals l.start l.i
