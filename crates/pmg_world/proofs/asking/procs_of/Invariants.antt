use Rattle.std.proofs.Common.{◌≡◌, true, drop, take}
use Rattle.pmg_world.specs.Asking.{are_named}
use Rattle.pmg_world.proofs.asking.procs_of.Given as goal

-- the processes so far; the others have names too
abbrev pub invariant-loop-proc : goal.invariant-loop-proc
invariant-loop-proc l = record {
  made : l.procs.items ≡ take l.proc-index l.named;
  left : are_named (drop l.proc-index l.named) ≡ true;
}
