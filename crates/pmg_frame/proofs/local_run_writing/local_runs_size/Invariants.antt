use Rattle.std.proofs.Common.{◌≡◌, ◌+◌, ◌-◌, ◌*◌, ◌≤◌, length, drop}
use Rattle.std.specs.List.{flat_map}
use Rattle.pmg_frame.specs.Runs.{local_ranks, runs_of}
use Rattle.pmg_frame.specs.RunSpelling.{local_run_spelling}
use Rattle.pmg_frame.proofs.local_run_writing.local_runs_size.Given as goal

-- those so far, and those that are left, are all of them
abbrev pub invariant-loop-start : goal.invariant-loop-start
invariant-loop-start l = record {
  so_far : l.size + length (flat_map local_run_spelling (runs_of local_ranks (drop l.start l.locals))) ≡ 4 + length (flat_map local_run_spelling (runs_of local_ranks l.locals));
  bound : l.size ≤ 4 + 273 * l.start;
  within : l.start ≤ length l.locals;
}

abbrev pub decreases-loop-start : goal.decreases-loop-start
decreases-loop-start l = length l.locals - l.start
