use Rattle.std.proofs.Common.{◌≡◌, ◌++◌, length}
use Rattle.std.specs.List.{flat_map}
use Rattle.pmg_jobinfo.specs.Expansion.{ranks}
use Rattle.pmg_jobinfo.specs.Procs.{procs_of, all_procs}
use Rattle.pmg_jobinfo.proofs.registry.Registry.procs.Given as goal

abbrev pub invariant-loop-nspace : goal.invariant-loop-nspace
invariant-loop-nspace l = l.procs.items ++ flat_map (λ e. procs_of e.0 (ranks (length e.1))) l.nspace-iterator ≡ all_procs l.self
