use Rattle.pmg_value.proofs.ProcessOrder.{procs_total, exact_procs}
use Rattle.pmg_fence.proofs.Trees.{read}
use Rattle.pmg_fence.proofs.index.Index.get.Goals as goal

pub returns : goal.returns
returns c = read procs_total exact_procs (λ s. s) c.self.inside.rows.entries c.args.self.now c.args.proc.now c.get.result c.self.view_is c.get.ensures.value
