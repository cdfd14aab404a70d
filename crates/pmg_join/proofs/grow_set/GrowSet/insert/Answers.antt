use Rattle.pmg_join.proofs.SetSteps.{inserted}
use Rattle.pmg_join.proofs.grow_set.GrowSet.insert.Goals as goal

pub returns-clause-ok : goal.returns-clause-ok
returns-clause-ok g c = inserted g.met.T.Ord.total g.met.T.Element.exact c.args.self.now.elements c.insert.new.self c.args.element c.in_ok-insert.ensures.updates.0
