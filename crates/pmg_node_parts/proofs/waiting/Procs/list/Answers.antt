use Rattle.std.proofs.Common.{◌++◌, sym, ap, ◌∙◌}
use Rattle.pmg_value.specs.InOrder.{in_order}
use Rattle.pmg_value.proofs.ProcessOrder.{procs_total, exact_procs}
use Rattle.pmg_value.proofs.SetOrder.{in_order-from_list}
use Rattle.pmg_node_parts.specs.Waiters.{Procs}
use Rattle.pmg_node_parts.proofs.waiting.Procs.list.Goals as goal

pub loop-proc-init : goal.loop-proc-init
loop-proc-init c =
    (λ i. c.in_ok-procs.ensures.items i ++ (c.into_iter-proc-iterator.ensures.into_iter_gives ∙ c.iter-proc-items.ensures.rest) i)
    ∙ sym (in_order-from_list procs_total exact_procs c.self.inside.items.keys c.iter-proc-items.ensures.ordered)
    ∙ ap (λ (s : Procs). in_order s) c.self.view_is
