use Rattle.std.proofs.Common.{take}
use Rattle.pmg_fence.specs.Kept.{ListsEach, ListsMore}
use Rattle.pmg_fence.proofs.index.Index.put_all.Given as goal

-- the signature is listed for each of the processes so far, and what was listed is
abbrev pub invariant-loop-proc : goal.invariant-loop-proc
invariant-loop-proc l = ListsEach l.self l.signature (take l.proc-index l.procs) × ListsMore l.fn.self l.self
