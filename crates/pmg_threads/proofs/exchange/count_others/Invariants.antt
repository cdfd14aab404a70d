use Rattle.std.proofs.Common.{◌≤◌}
use Rattle.pmg_threads.proofs.exchange.count_others.Given as goal

abbrev pub invariant-loop-proc : goal.invariant-loop-proc
invariant-loop-proc l = l.count ≤ l.proc-index
