use Rattle.std.proofs.Common.{◌≡◌, take, map}
use Rattle.pmg_jobfile.proofs.description.names_of.Given as goal

abbrev pub invariant-loop-space : goal.invariant-loop-space
invariant-loop-space l = map (λ n. n.now) l.names.items ≡ map (λ s. s.name) (take l.space-index l.spaces)
