use Rattle.std.proofs.Common.{◌≡◌, ◌++◌}
use Rattle.pmg_store.specs.Tables.{procs_of_lanes}
use Rattle.pmg_store.proofs.store.processes_in.Given as goal

-- the processes so far, and those that are left, are all of them
abbrev pub invariant-loop-proc : goal.invariant-loop-proc
invariant-loop-proc l = l.procs.items ++ procs_of_lanes l.proc-iterator ≡ procs_of_lanes l.places.entries
