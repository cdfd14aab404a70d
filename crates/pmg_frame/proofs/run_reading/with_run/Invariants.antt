use Rattle.std.proofs.Common.{◌≡◌, suc, ◌-◌, ◌++◌}
use Rattle.pmg_frame.specs.Runs.{proc_ranks, run, line, items_of}
use Rattle.pmg_frame.proofs.run_reading.with_run.Given as goal

-- those so far, and those that are left, are all of them
abbrev pub invariant-loop-rank : goal.invariant-loop-rank
invariant-loop-rank l = l.procs.items ++ line proc_ranks (suc l.last - l.rank) (proc_ranks.at l.first l.rank) ≡ l.fn.procs.items ++ items_of proc_ranks (run l.first l.last)
