use Rattle.std.proofs.Common.{[], ◌∷◌, ◌++◌, sym, subst}
use Rattle.pmg_scope.specs.Scripts.{Call}
use Rattle.pmg_commit.specs.Sealed.{Sealed}
use Rattle.pmg_commit.specs.SealerRules.{FitsSealer}
use Rattle.pmg_commit.proofs.SealerLaws.{end_goes_on}
use Rattle.pmg_commit.proofs.sealer.Sealer.seal_end.Goals as goal

pub returns-clause-script : goal.returns-clause-script
returns-clause-script c = λ s fits.
    subst (λ (z : Sealed). FitsSealer z (s ++ Call.terminate ∷ [])) (sym c.in_ok-end.ensures.ok) (end_goes_on c.args.self.now s fits)
