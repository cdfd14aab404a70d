use Rattle.pmg_frame.specs.FenceOrder.{signature_total}
use Rattle.pmg_frame.proofs.FenceOrderLemmas.{signatures_exact}
use Rattle.pmg_fence.proofs.Trees.{taken_out}
use Rattle.pmg_fence.proofs.all_series.AllSeries.remove.Goals as goal

pub returns : goal.returns
returns c = taken_out signature_total signatures_exact (λ s. s) c.self.inside.rows.entries c.remove.new.self.entries c.args.self.now c.args.signature.now c.self.view_is (λ q. c.remove.ensures.updates.0 q)
