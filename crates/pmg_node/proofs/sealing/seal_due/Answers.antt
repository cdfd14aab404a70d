use Rattle.std.proofs.Common.{Result, sym, subst, arith}
use Rattle.std.proofs.lemmas.Result.{err_from_is_err_and}
use Rattle.pmg_value.specs.Answers.{IsAnswer}
use Rattle.pmg_value.specs.declared.refusal.Refusal.{Refusal}
use Rattle.pmg_commit.specs.Sealed.{Sealed}
use Rattle.pmg_node.proofs.SealingLemmas.{level_counts, seal_undone}
use Rattle.pmg_node.proofs.sealing.seal_due.Goals as goal

pub returns-in_err-before-clause-before : goal.returns-in_err-before-clause-before
returns-in_err-before-clause-before c =
    let p = err_from_is_err_and c.from_residual.result c.from_residual.ensures.1 in
    rw (p.1, p.2) c.in_err-before.ensures.before

pub dues_besides-requires : goal.dues_besides-requires
dues_besides-requires c =
    let counts = level_counts c.args.table.now.jobs c.args.own.now c.args.act.now c.requires c.seal_next.new.own c.in_ok-before.ensures.ok in
    omega (arith, counts)

pub returns-in-Err-clause-before : goal.returns-in-Err-clause-before
returns-in-Err-clause-before c = subst (λ (r : Result Sealed Refusal). IsAnswer r) (sym c.in_ok-before.ensures.before) tt

pub returns-in-Err-clause-err : goal.returns-in-Err-clause-err
returns-in-Err-clause-err c =
    seal_undone c.args.table.now.jobs c.args.own.now c.args.act.now c.requires c.seal_next.new.own c.in_ok-before.ensures.ok c.unseal.new.own _ c.unseal.ensures c.in_ok-before.ensures.before
