use Rattle.std.proofs.Common.{◌≡◌}
use Rattle.pmg_node_parts.specs.Marking.{marks_back, AreSet}
use Rattle.pmg_node_parts.proofs.due.set_back.Given as goal

abbrev pub invariant-loop-mark : goal.invariant-loop-mark
invariant-loop-mark l = (marks_back l.marks l.before.items ≡ marks_back l.fn.marks l.fn.before.items) × AreSet l.marks l.before.items

abbrev pub decreases-loop-mark : goal.decreases-loop-mark
decreases-loop-mark l = goal.left-loop-mark l
