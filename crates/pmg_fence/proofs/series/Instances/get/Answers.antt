use Rattle.std.specs.FinMap.{nat_cmp-IsAntisymmetric}
use Rattle.std.specs.Cmp.{nat_cmp_total}
use Rattle.pmg_fence.proofs.Trees.{read}
use Rattle.pmg_fence.proofs.series.Instances.get.Goals as goal

pub returns : goal.returns
returns c = read nat_cmp_total nat_cmp-IsAntisymmetric (λ f. f) c.self.inside.rows.entries c.args.self.now c.args.instance c.get.result c.self.view_is c.get.ensures.value
