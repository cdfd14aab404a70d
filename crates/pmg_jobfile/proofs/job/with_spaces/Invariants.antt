use Rattle.std.proofs.Common.{◌≡◌, drop}
use Rattle.pmg_jobfile.specs.Described.{with_spaces}
use Rattle.pmg_jobfile.proofs.job.with_spaces.Given as goal

abbrev pub invariant-loop-space : goal.invariant-loop-space
invariant-loop-space l = with_spaces l.registry (drop l.space-index l.spaces) ≡ with_spaces l.initial.registry l.spaces
