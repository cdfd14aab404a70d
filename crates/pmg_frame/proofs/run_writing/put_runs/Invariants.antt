use Rattle.std.proofs.Common.{◌≡◌, ◌≤◌, ◌++◌, length}
use Rattle.std.specs.List.{flat_map, list_all}
use Rattle.std.specs.List.Sorted.{IsStrictlySortedBy}
use Rattle.pmg_value.specs.Names.{is_nspace}
use Rattle.pmg_value.specs.Process.{proc_cmp}
use Rattle.pmg_frame.specs.Runs.{proc_ranks, runs_of}
use Rattle.pmg_frame.specs.RunSpelling.{run_spelling}
use Rattle.pmg_frame.proofs.run_writing.put_runs.Given as goal

-- the runs so far, and those that are left, are all of them
abbrev pub invariant-loop-rest : goal.invariant-loop-rest
invariant-loop-rest l = record {
  bytes : l.out.items ++ flat_map run_spelling (runs_of proc_ranks l.rest) ≡ l.fn.out.items ++ flat_map run_spelling (runs_of proc_ranks l.procs);
  names : list_all (λ r. is_nspace r.first.nspace) (runs_of proc_ranks l.rest) ≡ list_all (λ r. is_nspace r.first.nspace) (runs_of proc_ranks l.procs);
  rising : IsStrictlySortedBy proc_cmp l.rest;
  few : length l.rest ≤ 4096;
}

abbrev pub decreases-loop-rest : goal.decreases-loop-rest
decreases-loop-rest l = length l.rest
