use Rattle.std.proofs.Common.{sym, ap, ◌∙◌}
use Rattle.pmg_lane.specs.Lanes.{level_of}
use Rattle.pmg_lane.proofs.Knowing.{level_known}
use Rattle.pmg_lane.proofs.track.Track.level.Goals as goal

pub returns-in-Merged-clause-value : goal.returns-in-Merged-clause-value
returns-in-Merged-clause-value c = c.level-in-Merged.ensures.value ∙ sym (level_known c.in-Merged.merged) ∙ ap level_of (sym c.in-Merged.is)
