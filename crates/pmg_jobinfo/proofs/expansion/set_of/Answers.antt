use Rattle.std.proofs.Common.{◌||◌, ap, ◌∙◌, arith}
use Rattle.std.specs.BTreeSet.{contains}
use Rattle.std.specs.Ordering.{eq_by_cmp}
use Rattle.pmg_value.specs.declared.process.Proc.{Proc}
use Rattle.pmg_value.specs.Process.{proc_cmp}
use Rattle.pmg_jobinfo.proofs.MemberLemmas.{one_added_at, all_added_at}
use Rattle.pmg_jobinfo.proofs.expansion.set_of.Goals as goal

pub loop-proc-preserved : goal.loop-proc-preserved
loop-proc-preserved c = λ q.
    one_added_at (eq_by_cmp proc_cmp q) c.args.list.now c.loop-proc.proc-index c.proc-item.result (contains proc_cmp c.loop-proc.named q) (contains proc_cmp c.add.new.all q)
    c.loop-proc-test.true c.proc-item.is (c.in_ok-add.ensures q ∙ ap (λ (p : Proc). eq_by_cmp proc_cmp q p || contains proc_cmp c.loop-proc.named q) c.in_ok-copy.ensures) (c.loop-proc.invariant q)

pub returns : goal.returns
returns c = λ q. all_added_at (eq_by_cmp proc_cmp q) c.args.list.now c.loop-proc.proc-index (contains proc_cmp c.loop-proc.named q) (omega (arith, c.loop-proc-test.false)) (c.loop-proc.invariant q)
