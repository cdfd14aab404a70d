use Rattle.std.proofs.Common.{sym, ◌∙◌}
use Rattle.pmg_value.proofs.ProcessOrder.{procs_total, exact_procs}
use Rattle.pmg_value.proofs.RowLemmas.{same_option}
use Rattle.pmg_fence.proofs.Trees.{put_in, get_at}
use Rattle.pmg_fence.proofs.numbers.Numbers.insert.Goals as goal

pub returns-clause-ok : goal.returns-clause-ok
returns-clause-ok c =
    put_in procs_total exact_procs (λ n. n) c.self.inside.rows.entries c.insert.new.self.entries _ c.args.proc c.args.number c.self.view_is (c.in_ok-insert.ensures).updates.0

pub returns-clause-before : goal.returns-clause-before
returns-clause-before c =
    c.in_ok-insert.ensures.old
    ∙ sym (same_option _)
    ∙ sym (get_at procs_total exact_procs (λ n. n) c.self.inside.rows.entries c.args.self.now c.args.proc c.self.view_is)
