use Rattle.std.proofs.Common.{ap}
use Rattle.std.specs.FinSet as set
use Rattle.pmg_join.specs.Sets.{set_in}
use Rattle.pmg_join.proofs.grow_set.GrowSet.new.Goals as goal

pub returns : goal.returns
unfolding set_in
returns g c = ap (set.from_list {R = g.T.Ord.cmp}) c.new.ensures.empty
