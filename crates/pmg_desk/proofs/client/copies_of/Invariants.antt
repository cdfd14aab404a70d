use Rattle.std.proofs.Common.{◌≡◌, take}
use Rattle.pmg_desk.proofs.client.copies_of.Given as goal

abbrev pub invariant-loop-proc : goal.invariant-loop-proc
invariant-loop-proc l = l.copies.items ≡ take l.proc-index l.procs
