use Rattle.std.proofs.Common.{◌≡◌}
use Rattle.pmg_jobinfo.specs.Expansion.{members}
use Rattle.pmg_jobinfo.proofs.expansion.members_of.Given as goal

abbrev pub invariant-loop-rank : goal.invariant-loop-rank
invariant-loop-rank l = l.procs.items ≡ members l.nspace l.rank
