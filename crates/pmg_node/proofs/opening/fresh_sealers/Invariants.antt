use Rattle.std.proofs.Common.{◌≡◌, true, length}
use Rattle.std.specs.FinMap as finite
use Rattle.std.specs.List.{list_all}
use Rattle.pmg_value.specs.Process.{can_commit}
use Rattle.pmg_node_parts.specs.Sealers.{with_fresh}
use Rattle.pmg_node.proofs.opening.fresh_sealers.Given as goal

abbrev pub invariant-loop-proc : goal.invariant-loop-proc
invariant-loop-proc l = (with_fresh l.procs.items l.sealers ≡ with_fresh l.fn.procs.items finite.empty) × (list_all can_commit l.procs.items ≡ true)

abbrev pub decreases-loop-proc : goal.decreases-loop-proc
decreases-loop-proc l = length l.procs.items
