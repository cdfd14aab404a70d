use Rattle.pmg_join.proofs.RangeLemmas.{no_cover}
use Rattle.pmg_join.proofs.range_set.RangeSet.new.Goals as goal

pub returns : goal.returns
returns c = no_cover c.new.result.ends c.new.ensures.none
