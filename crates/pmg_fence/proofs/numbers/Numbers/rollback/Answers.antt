use Rattle.std.proofs.Common.{◌∙◌, ap}
use Rattle.pmg_value.specs.Rows.{put_back}
use Rattle.pmg_value.proofs.ProcessOrder.{procs_total, exact_procs}
use Rattle.pmg_value.proofs.RowLemmas.{rows_back, same_option}
use Rattle.pmg_fence.proofs.numbers.Numbers.rollback.Goals as goal

pub returns : goal.returns
returns c =
    let before = c.args.before.now in
    rows_back procs_total exact_procs (λ n. n) c.self.inside.rows.entries c.put_back.new.rows.entries c.args.self.now before.proc before.number c.self.view_is c.put_back.ensures
    ∙ ap (put_back c.args.self.now before.proc) (same_option before.number)
