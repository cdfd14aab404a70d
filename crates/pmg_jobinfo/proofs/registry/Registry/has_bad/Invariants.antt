use Rattle.std.proofs.Common.{◌≡◌, drop}
use Rattle.std.specs.List.{list_any}
use Rattle.pmg_jobinfo.specs.Refusing.{is_bad}
use Rattle.pmg_jobinfo.proofs.registry.Registry.has_bad.Given as goal

abbrev pub invariant-loop-proc : goal.invariant-loop-proc
invariant-loop-proc l = list_any (is_bad l.self) l.list ≡ list_any (is_bad l.self) (drop l.proc-index l.list)
