use Rattle.std.proofs.Common.{Err, ap, subst, ◌∙◌}
use Rattle.std.proofs.lemmas.Result.{err_from_is_err_and}
use Rattle.pmg_jobinfo.specs.Expansion.{expansion}
use Rattle.pmg_jobinfo.specs.Jobs.{Jobs}
use Rattle.pmg_node.specs.Sealing.{CanSealNext}
use Rattle.pmg_node.proofs.SealingLemmas.{commit_sealed, definition_sealed, definition_failed, deletion_sealed}
use Rattle.pmg_node.proofs.sealing.seal_next.Goals as goal

pub commit-requires-clause-client : goal.commit-requires-clause-client
commit-requires-clause-client c = (subst (CanSealNext c.args.table.now.jobs c.args.own.now) c.in-Commit.is c.requires).0

pub commit-requires-clause-own : goal.commit-requires-clause-own
commit-requires-clause-own c = (subst (CanSealNext c.args.table.now.jobs c.args.own.now) c.in-Commit.is c.requires).1

pub returns-in-Commit : goal.returns-in-Commit
returns-in-Commit c =
    let its = commit_sealed c.args.table.now.jobs c.args.own.now c.commit.new.self c.args.act.now c.requires c.commit.result c.in-Commit.proc c.in-Commit.batch c.in-Commit.is
    c.commit.ensures.before c.commit.ensures.fits c.commit.ensures.ok c.commit.ensures.err in
    record { before = its.before; fits = its.fits; ok = its.ok; err = its.err }

pub returns-in_ok-members-in-Define : goal.returns-in_ok-members-in-Define
returns-in_ok-members-in-Define c =
    let its = definition_sealed c.args.table.now.jobs c.args.own.now c.define.new.self c.args.act.now c.requires c.define.result c.in-Define.name c.in-Define.list c.in_ok-members-in-Define.members.items
    c.in-Define.is (c.in_ok-members-in-Define.ensures ∙ ap (λ (j : Jobs). expansion j c.in-Define.list.now) c.registry.ensures) c.define.ensures.before c.define.ensures.fits c.define.ensures.ok c.define.ensures.err in
    record { before = its.before; fits = its.fits; ok = its.ok; err = its.err }

pub returns-in-Delete : goal.returns-in-Delete
returns-in-Delete c =
    let its = deletion_sealed c.args.table.now.jobs c.args.own.now c.delete.new.self c.args.act.now c.requires c.delete.result c.in-Delete.name c.in-Delete.is
    c.delete.ensures.before c.delete.ensures.fits c.delete.ensures.ok c.delete.ensures.err in
    record { before = its.before; fits = its.fits; ok = its.ok; err = its.err }

pub returns-in_err-members-in-Define : goal.returns-in_err-members-in-Define
returns-in_err-members-in-Define c =
    let p = err_from_is_err_and c.from_residual.result c.from_residual.ensures.1 in
    let its = definition_failed c.args.table.now.jobs c.args.own.now c.args.act.now c.from_residual.result c.in-Define.name c.in-Define.list c.in-Define.is (p.1 ∙ ap Err p.2) in
    record { before = its.before; fits = its.fits; ok = its.ok; err = its.err }
