use Rattle.std.proofs.Common.{◌∙◌}
use Rattle.pmg_join.proofs.RangeLemmas.{same_entries}
use Rattle.pmg_join.proofs.range_set.RangeSetJoin.copy.Goals as goal

pub returns : goal.returns
returns c = same_entries c.in_ok-copy.field-0.ends c.self.inside.ranges.ends c.in_ok-copy.ensures ∙ c.self.view_is
