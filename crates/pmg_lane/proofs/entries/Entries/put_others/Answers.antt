use Rattle.pmg_lane.specs.Entries.{HasEntry, entry_under}
use Rattle.pmg_lane.proofs.Settling.{settles_all}
use Rattle.pmg_lane.proofs.Moving.{moves_none, moves_some, stamp_was}
use Rattle.pmg_lane.proofs.entries.Entries.put_others.Goals as goal

pub put-requires-clause-places : goal.put-requires-clause-places
put-requires-clause-places c =
    let moves = c.loop-key.invariant in
    let here = c.in-Some-place.there in
    moves.places (entry_under c.in-Some.key here) (stamp_was moves c.pop.new.self c.in-Some.key c.in-Some.place c.in-Some.ensures.taken here c.in-Some-place.is)

pub loop-key-preserved-in-Some-place : goal.loop-key-preserved-in-Some-place
loop-key-preserved-in-Some-place c =
    let put = c.put.ensures in
    moves_some c.loop-key.invariant c.pop.new.self c.in-Some.key c.in-Some.place c.in-Some.ensures.taken c.in-Some-place.there c.put.new.self c.in-Some-place.is put.settles put.within put.late put.stay

pub loop-key-preserved : goal.loop-key-preserved
loop-key-preserved c = moves_none c.loop-key.invariant c.pop.new.self c.in-Some.key c.in-Some.place c.in-Some.ensures.taken c.in_default-place.is

pub returns-clause-settles : goal.returns-clause-settles
returns-clause-settles c =
    settles_all c.args.level c.args.self.now c.loop-key.self (HasEntry c.args.other) (HasEntry c.loop-key.other) c.loop-key.invariant.settles c.in_default.ensures.none
