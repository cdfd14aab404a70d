use Rattle.std.proofs.Common.{◌≡◌, ◌+◌, ◌-◌, ◌≤◌, Some}
use Rattle.std.specs.List.{slice_get}
use Rattle.pmg_frame.specs.Runs.{proc_ranks}
use Rattle.pmg_frame.proofs.run_writing.first_run.Given as goal

-- the first run goes so far, and has ended a step behind that
abbrev pub invariant-loop-step : goal.invariant-loop-step
invariant-loop-step l = record {
  first : slice_get l.procs 0 ≡ Some l.first;
  goes : slice_get l.procs l.known ≡ Some (proc_ranks.at l.first (l.first.rank + l.known));
  ends : slice_get l.procs (l.known + l.step) ≡ Some (proc_ranks.at l.first (l.first.rank + (l.known + l.step))) → ⊥;
  some : 1 ≤ l.step;
  near : l.step ≤ 4096;
}

abbrev pub decreases-loop-step : goal.decreases-loop-step
decreases-loop-step l = l.step - 1
