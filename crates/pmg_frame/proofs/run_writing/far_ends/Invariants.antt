use Rattle.std.proofs.Common.{◌≡◌, ◌+◌, ◌-◌, ◌≤◌, length, Some}
use Rattle.std.specs.List.{slice_get}
use Rattle.pmg_frame.specs.Runs.{proc_ranks}
use Rattle.pmg_frame.proofs.run_writing.far_ends.Given as goal

-- the first run goes so far, and the next look is not twice as far
abbrev pub invariant-loop-known : goal.invariant-loop-known
invariant-loop-known l = record {
  goes : slice_get l.procs l.known ≡ Some (proc_ranks.at l.first (l.first.rank + l.known));
  within : l.known + 1 ≤ length l.procs;
  step : l.step ≡ l.known + 1;
}

abbrev pub decreases-loop-known : goal.decreases-loop-known
decreases-loop-known l = length l.procs - l.known
