use Rattle.std.proofs.Common.{◌≡◌, length}
use Rattle.pmg_node_parts.specs.Calls.{all_instead}
use Rattle.pmg_node_parts.proofs.calls.Calls.replace_all.Given as goal

abbrev pub decreases-loop-proc : goal.decreases-loop-proc
decreases-loop-proc l = length l.answers.items

abbrev pub invariant-loop-proc : goal.invariant-loop-proc
invariant-loop-proc l = all_instead l.self l.answers.items ≡ all_instead l.fn.self l.fn.answers.items
