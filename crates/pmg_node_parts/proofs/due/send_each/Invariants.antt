use Rattle.std.proofs.Common.{◌≡◌, ◌++◌}
use Rattle.pmg_node_model.specs.Choosing.{sends}
use Rattle.pmg_node_parts.specs.Marking.{marks_back, AreSet}
use Rattle.pmg_node_parts.specs.Owns.{sealed_of}
use Rattle.pmg_node_parts.proofs.due.send_each.Given as goal

abbrev pub invariant-loop-due : goal.invariant-loop-due
invariant-loop-due l =
    (l.going.frames.items ≡ l.fn.going.frames.items ++ (sends (sealed_of l.fn.own) l.fn.marks l.yielded).frames)
    × (l.marks ≡ (sends (sealed_of l.fn.own) l.fn.marks l.yielded).marks)
    × (marks_back l.marks l.going.before.items ≡ marks_back l.fn.marks l.fn.going.before.items)
    × (AreSet l.fn.marks l.fn.going.before.items → AreSet l.marks l.going.before.items)
