use Rattle.pmg_lane.proofs.Reading.{level_alone, level_after}
use Rattle.pmg_lane.proofs.readings.level_alone.Goals as goal

pub returns-then-from-eq0-clause-value : goal.returns-then-from-eq0-clause-value
returns-then-from-eq0-clause-value c = level_alone c.args.from c.args.to c.if-from-eq0.true

pub returns-else-from-eq0-clause-value : goal.returns-else-from-eq0-clause-value
returns-else-from-eq0-clause-value c = level_after c.args.from c.args.to c.if-from-eq0.false
