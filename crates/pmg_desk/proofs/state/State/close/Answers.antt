use Rattle.std.proofs.Common.{rules, ◌≡◌, refl, subst}
use Rattle.pmg_desk.specs.declared.state.Parts.{Parts}
use Rattle.pmg_desk.specs.States.{IsStateKept}
use Rattle.pmg_desk.proofs.KeptLemmas.{kept_closed}
use Rattle.pmg_desk.proofs.state.State.close.Goals as goal

pub invariant_of-self-2 : goal.invariant_of-self-2
invariant_of-self-2 c =
    let p : Parts = c.deref_mut-parts.result.now in
    let opened : c.self.inside.parts.value ≡ p = search rules in
    kept_closed p _ (subst (λ (x : Parts). IsStateKept x) opened c.self.invariant) refl refl refl refl refl (search rules) (search rules)
