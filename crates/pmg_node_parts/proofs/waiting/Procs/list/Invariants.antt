use Rattle.std.proofs.Common.{◌≡◌, ◌++◌}
use Rattle.pmg_value.specs.InOrder.{in_order}
use Rattle.pmg_node_parts.proofs.waiting.Procs.list.Given as goal

abbrev pub invariant-loop-proc : goal.invariant-loop-proc
invariant-loop-proc l = l.procs.items ++ l.proc-iterator ≡ in_order l.self
