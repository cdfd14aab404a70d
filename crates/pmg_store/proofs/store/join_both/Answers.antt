use Rattle.std.proofs.Common.{◌∙◌}
use Rattle.pmg_join.proofs.RangeLemmas.{on_err}
use Rattle.pmg_store.proofs.LaneData.{same_data, taken_all}
use Rattle.pmg_store.proofs.store.join_both.Goals as goal

pub returns-in_err-make_room-clause-near_err : goal.returns-in_err-make_room-clause-near_err
returns-in_err-make_room-clause-near_err c =
    on_err c.from_residual.result (same_data c.near.inside.lanes.table c.make_room.new.self.table (λ q i. c.make_room.ensures.same i q) ∙ c.near.view_is)

pub returns-in_err-make_room-2-clause-near_err : goal.returns-in_err-make_room-2-clause-near_err
returns-in_err-make_room-2-clause-near_err c =
    on_err c.from_residual-in_err-make_room-2.result (same_data c.near.inside.lanes.table c.make_room.new.self.table (λ q i. c.make_room.ensures.same i q) ∙ c.near.view_is)

pub returns-in_err-make_room-2-clause-far_err : goal.returns-in_err-make_room-2-clause-far_err
returns-in_err-make_room-2-clause-far_err c =
    on_err c.from_residual-in_err-make_room-2.result (same_data c.far.inside.lanes.table c.make_room-2.new.self.table (λ q i. c.make_room-2.ensures.same i q) ∙ c.far.view_is)

pub returns-clause-near_ok : goal.returns-clause-near_ok
returns-clause-near_ok c =
    taken_all c.near.inside.lanes.table c.make_room.new.self.table c.near_more.inside.lanes.table c.take.new.self.table c.args.near.now c.args.near_more
    (λ q i. c.make_room.ensures.same i q) (λ q i. c.take.ensures i q) c.near.view_is c.near_more.view_is

pub returns-clause-far_ok : goal.returns-clause-far_ok
returns-clause-far_ok c =
    taken_all c.far.inside.lanes.table c.make_room-2.new.self.table c.far_more.inside.lanes.table c.take-2.new.self.table c.args.far.now c.args.far_more
    (λ q i. c.make_room-2.ensures.same i q) (λ q i. c.take-2.ensures i q) c.far.view_is c.far_more.view_is
