use Rattle.std.proofs.Common.{◌≡◌, ◌+◌, ◌-◌, ◌≤◌, length, drop}
use Rattle.pmg_frame.specs.Runs.{local_ranks, runs_of}
use Rattle.pmg_frame.proofs.local_run_writing.count_runs.Given as goal

-- those so far, and those that are left, are all of them
abbrev pub invariant-loop-start : goal.invariant-loop-start
invariant-loop-start l = record {
  so_far : l.count + length (runs_of local_ranks (drop l.start l.locals)) ≡ length (runs_of local_ranks l.locals);
  bound : l.count ≤ l.start;
  within : l.start ≤ length l.locals;
}

abbrev pub decreases-loop-start : goal.decreases-loop-start
decreases-loop-start l = length l.locals - l.start
