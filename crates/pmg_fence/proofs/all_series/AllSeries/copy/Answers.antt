use Rattle.std.proofs.Common.{◌∙◌}
use Rattle.pmg_frame.specs.FenceOrder.{signature_total}
use Rattle.pmg_frame.proofs.FenceOrderLemmas.{signatures_exact}
use Rattle.pmg_value.proofs.RowLemmas.{same_rows}
use Rattle.pmg_fence.specs.Tables.{Series}
use Rattle.pmg_fence.proofs.all_series.AllSeries.copy.Goals as goal

pub returns : goal.returns
returns c = same_rows signature_total signatures_exact (λ (s : Series). s) c.in_ok-copy_rows.field-0.entries c.self.inside.rows.entries c.in_ok-copy_rows.ensures ∙ c.self.view_is
