use Rattle.std.proofs.Common.{ap, ◌∙◌}
use Rattle.pmg_node_parts.specs.Answered.{still_waits}
use Rattle.pmg_node_parts.proofs.ReplyLemmas.{never_waits}
use Rattle.pmg_node_parts.proofs.answering.find_then.Goals as goal

pub found_then-requires : goal.found_then-requires
found_then-requires c = ap still_waits (c.answer.ensures c.args.registry.now c.args.id c.is_home.ensures) ∙ never_waits _
