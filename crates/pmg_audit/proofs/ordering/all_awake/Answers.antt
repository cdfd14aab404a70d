use Rattle.std.proofs.Common.{sym, subst, arith}
use Rattle.pmg_value.specs.Lists.{In}
use Rattle.pmg_audit.proofs.LaneLemmas.{in_next}
use Rattle.pmg_audit.proofs.ordering.all_awake.Goals as goal

pub loop-node-init : goal.loop-node-init
loop-node-init c = λ n less. absurd (omega (arith, less))

pub loop-node-preserved : goal.loop-node-preserved
loop-node-preserved c = λ n less. subst (In n) (sym c.in_ok-push_back.ensures.items) (in_next c.loop-node.awake.items c.loop-node.node c.loop-node.invariant n less)

pub returns : goal.returns
returns c = λ n less. c.loop-node.invariant n (omega (arith, less, c.loop-node-test.false))
