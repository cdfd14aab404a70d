use Rattle.std.proofs.Common.{ap, ◌∙◌}
use Rattle.std.specs.FinSet as set
use Rattle.pmg_join.proofs.RangeLemmas.{is_contained}
use Rattle.pmg_join.proofs.range_set.RangeSet.contains.Goals as goal

pub returns : goal.returns
returns c =
    is_contained c.self.inside.ranges.ends c.args.n c.contains.result c.contains.ensures ∙ ap (λ s. set.contains s c.args.n) c.self.view_is
