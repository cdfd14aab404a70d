use Rattle.std.proofs.Common.{◌≡◌}
use Rattle.pmg_node_parts.specs.BoardPreview.{near_ahead, far_ahead}
use Rattle.pmg_node_parts.specs.Answered.{asked_for}
use Rattle.pmg_node_parts.proofs.answering.ask_for.Given as goal

abbrev pub invariant-loop-key : goal.invariant-loop-key
invariant-loop-key l = l.dues.items ≡ asked_for l.fn.registry l.fn.id (near_ahead l.fn.ahead) (far_ahead l.fn.ahead) l.fn.proc l.yielded
