use Rattle.std.proofs.Common.{◌∙◌}
use Rattle.std.specs.Cmp.{nat_cmp_total}
use Rattle.std.specs.FinMap.{nat_cmp-IsAntisymmetric}
use Rattle.pmg_value.proofs.RowLemmas.{same_rows}
use Rattle.pmg_fence.specs.Tables.{Fence}
use Rattle.pmg_fence.proofs.series.Instances.copy.Goals as goal

pub returns : goal.returns
returns c = same_rows nat_cmp_total nat_cmp-IsAntisymmetric (λ (f : Fence). f) c.in_ok-copy_rows.field-0.entries c.self.inside.rows.entries c.in_ok-copy_rows.ensures ∙ c.self.view_is
