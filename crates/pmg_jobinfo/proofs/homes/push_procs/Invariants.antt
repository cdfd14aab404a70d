use Rattle.std.proofs.Common.{◌≡◌, ◌++◌, take}
use Rattle.pmg_jobinfo.specs.Procs.{procs_of}
use Rattle.pmg_jobinfo.proofs.homes.push_procs.Given as goal

abbrev pub invariant-loop-rank : goal.invariant-loop-rank
invariant-loop-rank l = l.procs.items ≡ l.fn.procs.items ++ procs_of l.nspace (take l.rank-index l.ranks)
