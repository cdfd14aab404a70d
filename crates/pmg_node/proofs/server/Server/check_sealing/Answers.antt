use Rattle.std.proofs.Common.{sym, ap, ◌∙◌}
use Rattle.pmg_node.specs.Sealing.{judged_before}
use Rattle.pmg_node.proofs.server.Server.check_sealing.Goals as goal

pub returns-in-Commit : goal.returns-in-Commit
returns-in-Commit c = let s = c.args.self.now in c.check_free.ensures ∙ ap (judged_before s.jobs s.id s.holding) (sym c.in-Commit.is)

pub returns-in-Define : goal.returns-in-Define
returns-in-Define c = let s = c.args.self.now in c.check_definition.ensures ∙ ap (judged_before s.jobs s.id s.holding) (sym c.in-Define.is)

pub returns-in-Delete : goal.returns-in-Delete
returns-in-Delete c = let s = c.args.self.now in c.check_name.ensures ∙ ap (judged_before s.jobs s.id s.holding) (sym c.in-Delete.is)
