use Rattle.std.proofs.Common.{ap, ◌∙◌}
use Rattle.pmg_commit.specs.Knowledge.{read}
use Rattle.pmg_lane.specs.Lanes.{known_by}
use Rattle.pmg_lane.proofs.lane.Lane.read.Goals as goal

pub returns : goal.returns
returns c = c.read.ensures ∙ ap (λ t. read (known_by t) c.args.key.now) c.self.view_is
