use Rattle.std.proofs.Common.{refl}
use Rattle.pmg_lane.proofs.Settling.{alike_late}
use Rattle.pmg_lane.proofs.entries.Entries.make_late_place.Goals as goal

pub returns-clause-same : goal.returns-clause-same
returns-clause-same c =
    let a = c.args.self.now in
    alike_late a (record { reads = a.reads; late = c.put_place.new.tree }) refl c.put_place.ensures.same
