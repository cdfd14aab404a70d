use Rattle.std.proofs.Common.{ap, ◌∙◌}
use Rattle.pmg_lane.specs.Lanes.{level_of}
use Rattle.pmg_lane.proofs.lane.Lane.level.Goals as goal

pub returns-clause-value : goal.returns-clause-value
returns-clause-value c = c.level.ensures.value ∙ ap level_of c.self.view_is
