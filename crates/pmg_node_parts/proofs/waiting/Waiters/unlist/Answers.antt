use Rattle.std.proofs.Common.{ap, ◌∙◌}
use Rattle.std.specs.FinMap as finite
use Rattle.pmg_value.proofs.RowLemmas.{rows_without}
use Rattle.pmg_frame.specs.FenceOrder.{name_total}
use Rattle.pmg_frame.proofs.FenceOrderLemmas.{names_exact}
use Rattle.pmg_node_parts.specs.Waiters.{Procs, Waiters}
use Rattle.pmg_node_parts.proofs.waiting.Waiters.unlist.Goals as goal

pub returns : goal.returns
returns c =
    rows_without name_total names_exact (λ (procs : Procs). procs) c.self.inside.rows.entries c.remove.new.self.entries c.args.name.now c.remove.ensures.updates.0
    ∙ ap (λ (m : Waiters). finite.remove m c.args.name.now) c.self.view_is
