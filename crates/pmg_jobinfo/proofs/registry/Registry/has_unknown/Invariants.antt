use Rattle.std.proofs.Common.{◌≡◌, not, drop}
use Rattle.std.specs.List.{list_any}
use Rattle.pmg_jobinfo.specs.Jobs.{is_registered}
use Rattle.pmg_jobinfo.proofs.registry.Registry.has_unknown.Given as goal

abbrev pub invariant-loop-proc : goal.invariant-loop-proc
invariant-loop-proc l = list_any (λ p. not (is_registered l.self p.nspace)) l.list ≡ list_any (λ p. not (is_registered l.self p.nspace)) (drop l.proc-index l.list)
