use Rattle.std.proofs.Common.{◌≡◌, ◌+◌, ◌*◌, ◌≤◌, length}
use Rattle.std.specs.List.{flat_map}
use Rattle.std.specs.List.Sorted.{IsStrictlySortedBy}
use Rattle.pmg_value.specs.Process.{proc_cmp}
use Rattle.pmg_frame.specs.Runs.{proc_ranks, runs_of}
use Rattle.pmg_frame.specs.RunSpelling.{run_spelling}
use Rattle.pmg_frame.proofs.run_writing.runs_size.Given as goal

-- the runs so far, and those that are left, are all of them
abbrev pub invariant-loop-rest : goal.invariant-loop-rest
invariant-loop-rest l = record {
  count : l.count + length (runs_of proc_ranks l.rest) ≡ length (runs_of proc_ranks l.procs);
  size : l.size + length (flat_map run_spelling (runs_of proc_ranks l.rest)) ≡ length (flat_map run_spelling (runs_of proc_ranks l.procs));
  so_many : l.count + length l.rest ≤ 4096;
  bound : l.size ≤ 264 * l.count;
  rising : IsStrictlySortedBy proc_cmp l.rest;
}

abbrev pub decreases-loop-rest : goal.decreases-loop-rest
decreases-loop-rest l = length l.rest
