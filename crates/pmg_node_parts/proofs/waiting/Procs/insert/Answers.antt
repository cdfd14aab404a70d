use Rattle.pmg_value.proofs.ProcessOrder.{procs_total, exact_procs}
use Rattle.pmg_fence.proofs.Trees.{put_among}
use Rattle.pmg_node_parts.proofs.waiting.Procs.insert.Goals as goal

pub returns-clause-ok : goal.returns-clause-ok
returns-clause-ok c = put_among procs_total exact_procs c.self.inside.items c.insert.new.self c.args.self.now c.args.proc c.self.view_is (c.in_ok-insert.ensures).updates.0
