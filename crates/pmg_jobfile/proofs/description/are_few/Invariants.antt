use Rattle.std.proofs.Common.{◌≡◌, nat_lt, drop}
use Rattle.pmg_jobfile.specs.Described.{proc_count}
use Rattle.pmg_jobfile.proofs.description.are_few.Given as goal

abbrev pub invariant-loop-space : goal.invariant-loop-space
invariant-loop-space l = nat_lt 32 (proc_count l.spaces) ≡ nat_lt l.left (proc_count (drop l.space-index l.spaces))
