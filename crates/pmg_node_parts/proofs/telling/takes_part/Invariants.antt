use Rattle.std.proofs.Common.{◌≡◌, drop}
use Rattle.std.specs.Prelude.{◌==◌}
use Rattle.std.specs.List.{list_any}
use Rattle.pmg_jobinfo.specs.Jobs.{home_of}
use Rattle.pmg_node_parts.proofs.telling.takes_part.Given as goal

abbrev pub invariant-loop-proc : goal.invariant-loop-proc
invariant-loop-proc l = list_any (λ q. home_of l.registry q == l.node) l.proc-items ≡ list_any (λ q. home_of l.registry q == l.node) (drop l.proc-index l.proc-items)
