use Rattle.std.proofs.Common.{ap, ◌∙◌}
use Rattle.pmg_commit.specs.Cores.{core_of}
use Rattle.pmg_lane.specs.Lanes.{core_in}
use Rattle.pmg_lane.proofs.lane.LaneJoin.copy.Goals as goal

pub returns : goal.returns
returns c = ap core_of c.in_ok-copy.ensures.same ∙ ap core_in c.self.view_is
