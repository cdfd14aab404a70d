use Rattle.std.proofs.Common.{sym, ap, ◌∙◌}
use Rattle.std.specs.FinSet as set
use Rattle.pmg_join.proofs.RangeLemmas.{is_contained}
use Rattle.pmg_lane.proofs.Merging.{numbers_is}
use Rattle.pmg_lane.proofs.merged.Merged.taken.Goals as goal

pub returns : goal.returns
returns c =
    is_contained c.args.self.now.taken.ends c.args.n c.contains.result c.contains.ensures ∙ ap (λ s. set.contains s c.args.n) (sym (numbers_is c.args.self.now))
