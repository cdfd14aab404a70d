use Rattle.pmg_lane.proofs.Reading.{level_with_more, level_within}
use Rattle.pmg_lane.proofs.merged.Merged.level_with.Goals as goal

pub returns-clause-value : goal.returns-clause-value
returns-clause-value c = level_with_more c.args.self.now c.args.from c.args.to c.level_with.result c.level_with.ensures.reached c.level_with.ensures.no_more

pub returns-clause-bound : goal.returns-clause-bound
returns-clause-bound c = level_within c.args.self.now c.args.from c.args.to c.level_with.result c.requires.kept c.requires.bound c.level_with.ensures.reached
