use Rattle.pmg_audit.specs.Codes.{all_of}
use Rattle.pmg_audit.specs.Telling.{IsMaking, work}
use Rattle.pmg_audit.proofs.ordering.make_all.Given as goal

abbrev pub invariant-loop-node : goal.invariant-loop-node
invariant-loop-node l = IsMaking (all_of l.fn.lanes.items) l.making

abbrev pub decreases-loop-node : goal.decreases-loop-node
decreases-loop-node l = work l.making
