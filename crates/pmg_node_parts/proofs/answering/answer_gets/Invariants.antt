use Rattle.std.proofs.Common.{◌≡◌, ◌++◌}
use Rattle.pmg_node_parts.specs.BoardPreview.{near_ahead, far_ahead}
use Rattle.pmg_node_parts.specs.Answered.{standings, gets_answered}
use Rattle.pmg_node_parts.proofs.answering.answer_gets.Given as goal

abbrev pub invariant-loop-asker : goal.invariant-loop-asker
invariant-loop-asker l =
    standings l.answers.items ≡ standings l.fn.answers.items ++ gets_answered l.fn.registry l.fn.id (near_ahead l.fn.ahead) (far_ahead l.fn.ahead) l.fn.target l.yielded
