use Rattle.std.proofs.Common.{Option, sym, ap, ◌∙◌}
use Rattle.pmg_commit.specs.declared.sealer.SealerUndo.{SealerUndo}
use Rattle.pmg_node.specs.Endings.{own_back}
use Rattle.pmg_node.proofs.EndLemmas.{own_same}
use Rattle.pmg_node.proofs.ending.take_seal_back.Goals as goal

pub returns-in_default : goal.returns-in_default
returns-in_default c =
    own_same c.args.own.now c.args.proc.now c.requires.client c.requires.there
    ∙ ap (λ (before : Option SealerUndo). own_back c.args.own.now c.args.proc.now before) (sym c.in_default.is)
