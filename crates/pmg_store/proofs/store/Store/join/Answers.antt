use Rattle.std.proofs.Common.{◌∙◌}
use Rattle.pmg_store.proofs.LaneData.{same_data, taken_all}
use Rattle.pmg_store.proofs.store.Store.join.Goals as goal

pub returns-in-Err-clause-err : goal.returns-in-Err-clause-err
returns-in-Err-clause-err c = same_data c.self.inside.lanes.table c.make_room.new.self.table (λ q i. c.make_room.ensures.same i q) ∙ c.self.view_is

pub returns-clause-ok : goal.returns-clause-ok
returns-clause-ok c =
    taken_all c.self.inside.lanes.table c.make_room.new.self.table c.other.inside.lanes.table c.take.new.self.table c.args.self.now c.args.other
    (λ q i. c.make_room.ensures.same i q) (λ q i. c.take.ensures i q) c.self.view_is c.other.view_is
