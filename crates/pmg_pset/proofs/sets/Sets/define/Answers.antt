use Rattle.std.proofs.Common.{[], ◌∷◌, ◌++◌, suc, Ok, ap, sym, subst, ◌∙◌}
use Rattle.std.proofs.lemmas.Result.{err_from_is_err_and}
use Rattle.pmg_commit.specs.Sealed.{Sealed}
use Rattle.pmg_commit.specs.SealerRules.{FitsSealer}
use Rattle.pmg_commit.specs.TakenBack.{sealer_back}
use Rattle.pmg_pset.specs.Changes.{definition, script_of}
use Rattle.pmg_pset.specs.Refusing.{define_cause}
use Rattle.pmg_pset.proofs.RuleLemmas.{change_fits}
use Rattle.pmg_pset.proofs.SetLemmas.{refused_alike, made_alike}
use Rattle.pmg_pset.proofs.sets.Sets.define.Goals as goal

pub returns-in_err-put_set-clause-answer : goal.returns-in_err-put_set-clause-answer
returns-in_err-put_set-clause-answer c =
    let z = c.args.self.now in
    let cause = define_cause z c.args.name c.args.members.items in
    let p = err_from_is_err_and c.from_residual.result c.from_residual.ensures.1 in
    rw (p.1, p.2) (refused_alike cause z (suc z.level) _ c.in_err-put_set.ensures.before)

pub returns-clause-answer : goal.returns-clause-answer
returns-clause-answer c =
    let z = c.args.self.now in
    let cause = define_cause z c.args.name c.args.members.items in
    let made = made_alike cause z (sealer_back c.put_set.new.self c.in_ok-put_set.field-0) (suc z.level) c.in_ok-put_set.ensures.before in
    made.1 ∙ ap Ok (ap (λ (w : Sealed). w.level) (sym c.in_ok-put_set.ensures.ok) ∙ sym c.level.ensures.value)

pub returns-clause-script : goal.returns-clause-script
returns-clause-script c = λ cs fits.
    let change = definition c.args.name c.args.members.items in
    subst (λ (w : Sealed). FitsSealer w (script_of (cs ++ change ∷ []))) (sym c.in_ok-put_set.ensures.ok) (change_fits c.args.self.now cs change fits)
