use Rattle.std.proofs.Common.{[], ◌∷◌, ◌++◌, sym, subst}
use Rattle.pmg_commit.specs.Sealed.{Sealed}
use Rattle.pmg_commit.specs.SealerRules.{FitsSealer}
use Rattle.pmg_pset.specs.Changes.{deletion, script_of}
use Rattle.pmg_pset.proofs.RuleLemmas.{change_fits}
use Rattle.pmg_pset.proofs.sets.Sets.delete.Goals as goal

pub returns-clause-script : goal.returns-clause-script
returns-clause-script c = λ cs fits.
    let change = deletion c.args.name.now in
    subst (λ (w : Sealed). FitsSealer w (script_of (cs ++ change ∷ []))) (sym c.in_ok-remove_set.ensures.ok) (change_fits c.args.self.now cs change fits)
