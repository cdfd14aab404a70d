use Rattle.std.proofs.Common.{◌≡◌, ◌++◌}
use Rattle.pmg_node_parts.specs.Answered.{standings, released_all}
use Rattle.pmg_node_parts.proofs.answering.release_all.Given as goal

abbrev pub invariant-loop-proc : goal.invariant-loop-proc
invariant-loop-proc l = standings l.answers.items ≡ standings l.fn.answers.items ++ released_all l.fn.name l.fn.gone.items l.yielded
