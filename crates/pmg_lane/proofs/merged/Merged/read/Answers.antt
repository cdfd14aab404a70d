use Rattle.std.proofs.Common.{sym, ◌∙◌}
use Rattle.pmg_lane.proofs.Merging.{read_known}
use Rattle.pmg_lane.proofs.merged.Merged.read.Goals as goal

pub returns : goal.returns
returns c = c.read.ensures ∙ sym (read_known c.args.self.now c.requires c.args.key.now)
