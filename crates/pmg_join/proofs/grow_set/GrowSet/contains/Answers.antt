use Rattle.std.proofs.Common.{sym, ◌∙◌}
use Rattle.pmg_join.proofs.SetSteps.{contains-set_in}
use Rattle.pmg_join.proofs.grow_set.GrowSet.contains.Goals as goal

pub returns : goal.returns
returns g c = c.contains.ensures ∙ sym (contains-set_in g.met.T.Ord.total c.args.self.now.elements c.args.element.now)
