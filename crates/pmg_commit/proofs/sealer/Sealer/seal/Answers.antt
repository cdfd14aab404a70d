use Rattle.pmg_commit.specs.Sealed.{can_seal}
use Rattle.pmg_commit.specs.TakenBack.{sealer_back}
use Rattle.pmg_commit.proofs.SealerLaws.{made_can, commit_goes_on}
use Rattle.pmg_commit.proofs.sealer.Sealer.seal.Goals as goal

pub returns-clause-script : goal.returns-clause-script
returns-clause-script c = λ s batch fits.
    let z = c.args.self.now in
    let can = made_can (can_seal z c.args.batch.now) z (sealer_back c.commit.new.self c.in_ok-commit.field-0) c.in_ok-commit.ensures.before in
    commit_goes_on z c.commit.new.self c.args.batch.now s can c.in_ok-commit.ensures.ok batch fits
