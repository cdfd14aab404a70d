use Rattle.std.proofs.Common.{◌≡◌, true, not, Result, ap, subst, ◌∙◌}
use Rattle.pmg_value.specs.Answers.{Gives}
use Rattle.pmg_value.specs.declared.refusal.Refusal.{Refusal}
use Rattle.pmg_commit.specs.Sealed.{Sealed}
use Rattle.pmg_commit.specs.TakenBack.{sealer_back}
use Rattle.pmg_pset.specs.Sets.{AreSets, is_live}
use Rattle.pmg_pset.proofs.SetLemmas.{found_live, deletion_due}
use Rattle.pmg_pset.proofs.sets.Sets.remove_set.Goals as goal

pub returns-clause-before : goal.returns-clause-before
returns-clause-before c =
    let z = c.args.self.now in
    let live : is_live z c.args.name.now ≡ true = found_live _ c.live.result _ c.live.ensures.value (c.is_none.ensures ∙ ap not c.if-is_none.false) in
    subst (λ (due : Result Sealed Refusal). Gives (λ b. sealer_back c.change-2.new.self b) c.change-2.result due)
    (deletion_due z c.args.name.now c.new.result.items (subst AreSets c.change.view_is c.change.invariant) live c.new.ensures.items) c.change-2.ensures.before
