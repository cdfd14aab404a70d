use Rattle.std.proofs.Common.{rules, ◌≡◌, Some, subst, ◌∙◌}
use Rattle.std.specs.Option.{option_map}
use Rattle.pmg_node_model.specs.Kept.{IsOwn}
use Rattle.pmg_desk.specs.declared.state.Parts.{Parts}
use Rattle.pmg_desk.proofs.OutLemmas.{judged, own_by}
use Rattle.pmg_desk.proofs.state.State.check_caller.Goals as goal

pub returns-in-Some-clause-home : goal.returns-in-Some-clause-home
returns-in-Some-clause-home c = λ is.
    let p : Parts = c.self.inside.parts.value in
    let due : option_map (judged c.args.proc.now) p.node ≡ Some c.check_caller.result = search rules in
    subst (λ (q : Parts). IsOwn q.journal.registry q.journal.node c.args.proc.now) c.self.view_is (own_by p c.self.invariant c.args.proc.now (due ∙ is))
