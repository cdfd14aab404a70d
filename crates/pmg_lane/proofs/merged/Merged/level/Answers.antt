use Rattle.std.proofs.Common.{◌≤◌, sym, ◌∙◌, subst}
use Rattle.pmg_lane.proofs.Merging.{level_reached, level_bound, level_is_of}
use Rattle.pmg_lane.proofs.merged.Merged.level.Goals as goal

pub returns-clause-value : goal.returns-clause-value
returns-clause-value c = level_reached c.args.self.now.taken.ends c.level.result c.level.ensures.reached c.level.ensures.no_more ∙ sym (level_is_of c.args.self.now)

pub returns-clause-bound : goal.returns-clause-bound
returns-clause-bound c =
    subst (λ n. n ≤ 4294967295) (sym (level_reached c.args.self.now.taken.ends c.level.result c.level.ensures.reached c.level.ensures.no_more))
    (level_bound c.args.self.now.taken.ends 4294967295 c.requires.bound)
