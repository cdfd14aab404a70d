use Rattle.std.proofs.Common.{◌≡◌, not, drop}
use Rattle.std.specs.List.{list_any}
use Rattle.pmg_jobinfo.specs.Jobs.{is_registered}
use Rattle.pmg_node.proofs.entering.has_unknown.Given as goal

abbrev pub invariant-loop-proc : goal.invariant-loop-proc
invariant-loop-proc l =
    list_any (λ q. not (is_registered l.registry q.nspace)) l.list ≡ list_any (λ q. not (is_registered l.registry q.nspace)) (drop l.proc-index l.list)
