use Rattle.std.proofs.Common.{ap, ◌∙◌}
use Rattle.std.specs.FinSet as set
use Rattle.pmg_lane.specs.Lanes.{known_by}
use Rattle.pmg_lane.proofs.lane.Lane.taken.Goals as goal

pub returns : goal.returns
returns c = c.taken.ensures ∙ ap (λ t. set.contains (known_by t).numbers c.args.n) c.self.view_is
