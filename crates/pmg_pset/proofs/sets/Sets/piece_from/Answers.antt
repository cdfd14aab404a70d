use Rattle.std.proofs.Common.{ap, subst, ◌∙◌}
use Rattle.std.specs.Prelude.{Result}
use Rattle.pmg_value.specs.Answers.{Gives}
use Rattle.pmg_value.specs.declared.refusal.Refusal.{Refusal}
use Rattle.pmg_commit.specs.Knowledge.{Contribution}
use Rattle.pmg_commit.specs.Sealed.{Sealed, piece_answer}
use Rattle.pmg_pset.proofs.SetLemmas.{same_piece}
use Rattle.pmg_pset.proofs.sets.Sets.piece_from.Goals as goal

pub returns : goal.returns
returns c r other =
    let same = same_piece c.self.inside.sealer c.self.invariant c.args.from r other in
    let seen = ap (λ (z : Sealed). piece_answer z c.args.from r) c.self.view_is in
    subst (λ (due : Result Contribution Refusal). Gives (λ p. p) c.piece_of.result due) (same ∙ seen) c.piece_of.ensures
