use Rattle.std.specs.FinMap.{nat_cmp-IsAntisymmetric}
use Rattle.std.specs.Cmp.{nat_cmp_total}
use Rattle.pmg_fence.proofs.Trees.{taken_out}
use Rattle.pmg_fence.proofs.headers.Headers.remove.Goals as goal

pub returns : goal.returns
returns c = taken_out nat_cmp_total nat_cmp-IsAntisymmetric (λ h. h.locals) c.self.inside.rows.entries c.remove.new.self.entries c.args.self.now c.args.node c.self.view_is (λ q. c.remove.ensures.updates.0 q)
