use Rattle.std.proofs.Common.{ap, ◌∙◌}
use Rattle.pmg_commit.specs.Cores.{join_cores}
use Rattle.pmg_lane.specs.Lanes.{core_in}
use Rattle.pmg_lane.proofs.lane.LaneJoin.join.Goals as goal

pub returns-clause-ok : goal.returns-clause-ok
returns-clause-ok c = c.take.ensures ∙ ap (λ a. join_cores a (core_in c.args.other)) c.make_room.ensures.same
