use Rattle.std.proofs.Common.{◌≡◌, ◌||◌, drop}
use Rattle.std.specs.List.{list_any}
use Rattle.pmg_value.specs.Names.{is_reserved}
use Rattle.pmg_jobinfo.specs.Refusing.{is_bad}
use Rattle.pmg_node.proofs.entering.has_bad.Given as goal

abbrev pub invariant-loop-proc : goal.invariant-loop-proc
invariant-loop-proc l =
    list_any (λ q. is_reserved q.nspace || is_bad l.registry q) l.list ≡ list_any (λ q. is_reserved q.nspace || is_bad l.registry q) (drop l.proc-index l.list)
