use Rattle.std.proofs.Common.{refl}
use Rattle.pmg_lane.proofs.Settling.{alike_reads}
use Rattle.pmg_lane.proofs.entries.Entries.make_read_place.Goals as goal

pub returns-clause-same : goal.returns-clause-same
returns-clause-same c =
    let a = c.args.self.now in
    alike_reads a (record { reads = c.make_place.new.tree; late = a.late }) c.make_place.ensures.same refl
