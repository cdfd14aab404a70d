use Rattle.pmg_value.proofs.ProcessOrder.{procs_total, exact_procs}
use Rattle.pmg_node_parts.proofs.WaiterLemmas.{taken_among}
use Rattle.pmg_node_parts.proofs.waiting.Procs.remove.Goals as goal

pub returns : goal.returns
returns c = taken_among procs_total exact_procs c.self.inside.items c.remove.new.self c.args.self.now c.args.proc.now c.self.view_is c.remove.ensures.updates.0
