use Rattle.std.proofs.Common.{map}
use Rattle.pmg_commit.specs.Pieces.{entry_of}
use Rattle.pmg_lane.specs.Merged.{merged_knowledge, told}
use Rattle.pmg_lane.proofs.LaneCores.{alone}
use Rattle.pmg_lane.proofs.track.Track.of.Goals as goal

pub returns-clause-taken : goal.returns-clause-taken
returns-clause-taken c =
    alone (merged_knowledge c.new-merged.result) (told c.args.from c.args.to (map entry_of c.args.entries.items)) (merged_knowledge c.absorb.new.self) c.new-merged.ensures.nothing
    c.in_ok-absorb.ensures.taken
