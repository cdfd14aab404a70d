use Rattle.std.proofs.Common.{ℕ, sym, ap, ◌∙◌}
use Rattle.std.specs.Prelude.{◌==◌}
use Rattle.std.specs.FinSet as set
use Rattle.pmg_value.proofs.ProcessOrder.{procs_total}
use Rattle.pmg_value.proofs.SetOrder.{len-from_list}
use Rattle.pmg_node_parts.specs.Waiters.{Procs}
use Rattle.pmg_node_parts.proofs.waiting.Procs.is_empty.Goals as goal

pub returns : goal.returns
returns c =
    ap (λ (n : ℕ). n == 0) (c.len.ensures.len ∙ sym (len-from_list procs_total c.self.inside.items.keys c.len.ensures.ordered) ∙ ap (λ (s : Procs). set.len s) c.self.view_is)
