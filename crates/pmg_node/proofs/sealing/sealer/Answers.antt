use Rattle.std.proofs.Common.{sym, ap, ◌∙◌}
use Rattle.pmg_node.specs.Sealing.{sealer_named}
use Rattle.pmg_node.proofs.sealing.sealer.Goals as goal

pub returns-in-Commit : goal.returns-in-Commit
returns-in-Commit c = ap sealer_named (sym c.in-Commit.is)

pub returns-in-Define : goal.returns-in-Define
returns-in-Define c = c.requires ∙ ap sealer_named (sym c.in-Define.is)

pub returns-in-Delete : goal.returns-in-Delete
returns-in-Delete c = c.requires ∙ ap sealer_named (sym c.in-Delete.is)
