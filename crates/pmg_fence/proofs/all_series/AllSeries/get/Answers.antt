use Rattle.pmg_frame.specs.FenceOrder.{signature_total}
use Rattle.pmg_frame.proofs.FenceOrderLemmas.{signatures_exact}
use Rattle.pmg_fence.proofs.Trees.{read}
use Rattle.pmg_fence.proofs.all_series.AllSeries.get.Goals as goal

pub returns : goal.returns
returns c = read signature_total signatures_exact (λ s. s) c.self.inside.rows.entries c.args.self.now c.args.signature.now c.get.result c.self.view_is c.get.ensures.value
