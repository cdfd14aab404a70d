use Rattle.std.proofs.Common.{◌≡◌, ◌++◌}
use Rattle.std.specs.List.{flat_map}
use Rattle.pmg_jobinfo.specs.Procs.{procs_of, procs_at}
use Rattle.pmg_jobinfo.specs.Reserved.{ranks_at}
use Rattle.pmg_jobinfo.proofs.registry.Registry.procs_at.Given as goal

abbrev pub invariant-loop-nspace : goal.invariant-loop-nspace
invariant-loop-nspace l = l.procs.items ++ flat_map (λ e. procs_of e.0 (ranks_at l.node e.1)) l.nspace-iterator ≡ procs_at l.self l.node
