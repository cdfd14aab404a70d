use Rattle.std.proofs.Common.{ℕ, ◌<◌}
use Rattle.pmg_value.specs.Lists.{In}
use Rattle.pmg_audit.proofs.ordering.all_awake.Given as goal

abbrev pub invariant-loop-node : goal.invariant-loop-node
invariant-loop-node l = (n : ℕ) → n < l.node → In n l.awake.items
