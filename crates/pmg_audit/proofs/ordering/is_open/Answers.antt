use Rattle.std.proofs.Common.{◌≡◌, ◌<◌, length, rules}
use Rattle.pmg_audit.proofs.LaneLemmas.{closed_all, closed_more}
use Rattle.pmg_audit.proofs.ordering.is_open.Goals as goal

pub loop-lane-preserved : goal.loop-lane-preserved
loop-lane-preserved c =
    let inside : c.loop-lane.lane-index < length c.args.lanes.now = search rules in
    let none : length c.lane-item.result.moves.items ≡ 0 = search rules in
    closed_more c.args.lanes.now c.loop-lane.lane-index c.lane-item.result inside c.lane-item.is none c.loop-lane.invariant

pub returns-clause-closed : goal.returns-clause-closed
returns-clause-closed c = λ _. closed_all c.args.lanes.now c.loop-lane.lane-index (search rules) c.loop-lane.invariant
