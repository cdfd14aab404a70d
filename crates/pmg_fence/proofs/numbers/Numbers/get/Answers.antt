use Rattle.std.proofs.Common.{sym, ◌∙◌}
use Rattle.pmg_value.proofs.ProcessOrder.{procs_total, exact_procs}
use Rattle.pmg_fence.proofs.Trees.{read, copied_there}
use Rattle.pmg_fence.proofs.numbers.Numbers.get.Goals as goal

pub returns : goal.returns
returns c =
    c.copied.ensures ∙ sym (copied_there c.get.result)
    ∙ read procs_total exact_procs (λ n. n) c.self.inside.rows.entries c.args.self.now c.args.proc.now c.get.result c.self.view_is c.get.ensures.value
