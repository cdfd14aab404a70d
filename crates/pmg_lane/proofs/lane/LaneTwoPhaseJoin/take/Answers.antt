use Rattle.std.proofs.Common.{sym, subst, ◌∙◌}
use Rattle.pmg_commit.specs.Cores.{join_cores}
use Rattle.pmg_lane.specs.Lanes.{core_in, known_by, HaveRooms}
use Rattle.pmg_lane.proofs.LaneCores.{joined}
use Rattle.pmg_lane.proofs.lane.LaneTwoPhaseJoin.take.Goals as goal

pub take_all-requires-clause-room : goal.take_all-requires-clause-room
take_all-requires-clause-room c =
    subst (λ t. HaveRooms t c.other.inside.track) (sym c.self.view_is) (subst (HaveRooms c.args.self.now) (sym c.other.view_is) c.requires)

pub returns : goal.returns
returns c =
    joined (known_by c.self.inside.track) (known_by c.other.inside.track) (known_by c.take_all.new.self) c.take_all.ensures.taken
    ∙ (λ i. join_cores (core_in (c.self.view_is i)) (core_in (c.other.view_is i)))
