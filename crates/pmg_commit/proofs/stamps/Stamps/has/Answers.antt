use Rattle.std.proofs.Common.{◌∙◌, ap}
use Rattle.std.specs.FinMap as finite
use Rattle.pmg_commit.specs.Stamped.{stamp_of}
use Rattle.pmg_commit.proofs.StampLemmas.{some_shown}
use Rattle.pmg_commit.proofs.stamps.Stamps.has.Goals as goal

pub returns : goal.returns
returns c =
    c.is_some.ensures
    ∙ some_shown (λ v. stamp_of v.now) c.get.result (finite.get c.args.self.now c.args.key.now)
    (c.get.ensures ∙ ap (λ m. finite.get m c.args.key.now) c.self.view_is)
