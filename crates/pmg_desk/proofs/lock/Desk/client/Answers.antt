use Rattle.std.proofs.Common.{sym, subst, ◌∙◌}
use Rattle.pmg_desk.specs.Places.{LiesAt}
use Rattle.pmg_desk.specs.declared.lock.Place.{Place}
use Rattle.pmg_desk.proofs.lock.Desk.client.Goals as goal

pub put_back-requires-clause-state : goal.put_back-requires-clause-state
put_back-requires-clause-state g c =
    let given = c.give_viewer-given in
    subst (λ (p : Place). LiesAt p given.new.self.state) (λ i. (sym (given.ensures.desk ∙ c.in-Some.ensures.desk) i).place) (given.ensures.state c.args.self.now.place c.in-Some.ensures.state)
