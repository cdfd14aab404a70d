use Rattle.std.proofs.Common.{sym, ap, subst, ◌∙◌}
use Rattle.pmg_commit.specs.TakenBack.{sealer_back}
use Rattle.pmg_node_parts.specs.Owns.{LocalCommits}
use Rattle.pmg_commit.specs.declared.sealer.SealerUndo.{SealerUndo}
use Rattle.pmg_node.specs.Sealing.{CanUnseal, last_sealed, with_next}
use Rattle.pmg_node.specs.declared.sealing.SealingAct.{SealingAct}
use Rattle.pmg_node.proofs.sealing.unseal.Goals as goal

abbrev unsealed : LocalCommits → SealerUndo → SealingAct → LocalCommits
unsealed own before a = with_next own a (sealer_back (last_sealed own a) before)

pub rollback-requires-clause-client : goal.rollback-requires-clause-client
rollback-requires-clause-client c = (subst (λ (a : SealingAct). CanUnseal c.args.own.now a c.args.before) c.in-Commit.is c.requires).0

pub rollback-requires-clause-own : goal.rollback-requires-clause-own
rollback-requires-clause-own c = (subst (λ (a : SealingAct). CanUnseal c.args.own.now a c.args.before) c.in-Commit.is c.requires).1

pub rollback-requires-clause-fits : goal.rollback-requires-clause-fits
rollback-requires-clause-fits c = (subst (λ (a : SealingAct). CanUnseal c.args.own.now a c.args.before) c.in-Commit.is c.requires).2

pub take_sets_back-requires : goal.take_sets_back-requires
take_sets_back-requires c = subst (λ (a : SealingAct). CanUnseal c.args.own.now a c.args.before) c.in-Define.is c.requires

pub take_sets_back-requires-in-Delete : goal.take_sets_back-requires-in-Delete
take_sets_back-requires-in-Delete c = subst (λ (a : SealingAct). CanUnseal c.args.own.now a c.args.before) c.in-Delete.is c.requires

pub returns-in-Commit : goal.returns-in-Commit
returns-in-Commit c = c.rollback.ensures ∙ ap (unsealed c.args.own.now c.args.before) (sym c.in-Commit.is)

pub returns-in-Define : goal.returns-in-Define
returns-in-Define c = c.take_sets_back.ensures ∙ ap (unsealed c.args.own.now c.args.before) (sym c.in-Define.is)

pub returns-in-Delete : goal.returns-in-Delete
returns-in-Delete c = c.take_sets_back-in-Delete.ensures ∙ ap (unsealed c.args.own.now c.args.before) (sym c.in-Delete.is)
