use Rattle.std.proofs.Common.{◌≡◌, suc, ◌-◌, ◌++◌}
use Rattle.pmg_frame.specs.Runs.{local_ranks, run, line, items_of}
use Rattle.pmg_frame.proofs.local_run_reading.with_run.Given as goal

-- those so far, and those that are left, are all of them
abbrev pub invariant-loop-rank : goal.invariant-loop-rank
invariant-loop-rank l = l.locals.items ++ line local_ranks (suc l.last - l.rank) (local_ranks.at l.first l.rank) ≡ l.fn.locals.items ++ items_of local_ranks (run l.first l.last)
