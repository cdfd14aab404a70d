use Rattle.std.proofs.Common.{suc, sym, ap, ◌∙◌}
use Rattle.std.specs.FinSet as set
use Rattle.pmg_join.proofs.RangeLemmas.{set_of-Decides, not_covered}
use Rattle.pmg_join.proofs.range_set.RangeSet.level.Goals as goal

pub returns-clause-reached : goal.returns-clause-reached
returns-clause-reached c n a b =
    ap (λ s. set.contains s n) (sym c.self.view_is) ∙ (set_of-Decides c.self.inside.ranges.ends n).1 (c.level.ensures.reached n a b)

pub returns-clause-no_more : goal.returns-clause-no_more
returns-clause-no_more c =
    ap (λ s. set.contains s (suc c.level.result)) (sym c.self.view_is) ∙ not_covered c.self.inside.ranges.ends (suc c.level.result) c.level.ensures.no_more
