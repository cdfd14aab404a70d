use Rattle.pmg_dmodex.specs.Levels.{node_level}
use Rattle.pmg_node_parts.proofs.MarkLemmas.{never_fails}
use Rattle.pmg_node_parts.proofs.due.set_one_back.Goals as goal

pub returns : goal.returns
returns c = never_fails c.set.result (node_level c.args.marks.now c.args.mark.proc c.args.mark.node) c.set.ensures.ok c.set.ensures.absent c.requires
