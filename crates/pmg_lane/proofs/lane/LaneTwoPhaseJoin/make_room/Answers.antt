use Rattle.std.proofs.Common.{ap, subst, ◌∙◌}
use Rattle.std.proofs.lemmas.Result.{on_ok_weaker}
use Rattle.pmg_commit.specs.Cores.{same_core}
use Rattle.pmg_lane.specs.Lanes.{core_in, HaveRooms}
use Rattle.pmg_lane.proofs.lane.LaneTwoPhaseJoin.make_room.Goals as goal

pub returns-clause-same : goal.returns-clause-same
returns-clause-same c = same_core (core_in c.make_rooms.new.self) (core_in c.self.inside.track) c.make_rooms.ensures.same ∙ ap core_in c.self.view_is

pub returns-clause-room : goal.returns-clause-room
returns-clause-room c = on_ok_weaker c.make_rooms.result (subst (HaveRooms c.make_rooms.new.self) c.other.view_is) c.make_rooms.ensures.room
