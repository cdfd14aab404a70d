use Rattle.std.proofs.Common.{◌≡◌, drop}
use Rattle.pmg_world.specs.Asking.{are_named}
use Rattle.pmg_world.proofs.asking.are_named.Given as goal

-- it is for the processes that are left to say
abbrev pub invariant-loop-proc : goal.invariant-loop-proc
invariant-loop-proc l = are_named l.procs ≡ are_named (drop l.proc-index l.procs)
