use Rattle.std.proofs.Common.{map}
use Rattle.pmg_commit.specs.Pieces.{entry_of}
use Rattle.pmg_lane.proofs.Singles.{level_both}
use Rattle.pmg_lane.proofs.single.Single.level_with.Goals as goal

pub returns-clause-value : goal.returns-clause-value
returns-clause-value c =
    let s = c.args.self.now in
    level_both s.from s.to c.args.from c.args.to c.level_of_both.result (map entry_of s.entries.items) c.level_of_both.ensures.reached c.level_of_both.ensures.no_more
