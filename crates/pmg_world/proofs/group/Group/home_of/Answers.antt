use Rattle.std.proofs.Common.{◌<◌, length, sym, subst, ◌∙◌}
use Rattle.pmg_world.proofs.GroupLemmas.{home_inside}
use Rattle.pmg_world.proofs.group.Group.home_of.Goals as goal

pub returns-clause-bound : goal.returns-clause-bound
returns-clause-bound c = subst (λ n. n < length c.args.self.now.nodes.items) (sym (c.index.ensures.value ∙ c.home_of.ensures)) (home_inside c.args.self.now c.requires c.args.proc.now)
