use Rattle.std.proofs.Common.{ℕ, List, ap, ◌∙◌}
use Rattle.std.specs.FinMap as finite
use Rattle.pmg_value.proofs.ProcessOrder.{procs_total, exact_procs}
use Rattle.pmg_value.proofs.RowLemmas.{rows_without}
use Rattle.pmg_dmodex.specs.Parked.{Askers}
use Rattle.pmg_dmodex.proofs.parked.Askers.remove.Goals as goal

pub returns : goal.returns
returns c =
    rows_without procs_total exact_procs (λ (key : List ℕ). key) c.self.inside.rows.entries c.remove.new.self.entries c.args.asker.now c.remove.ensures.updates.0
    ∙ ap (λ (m : Askers). finite.remove m c.args.asker.now) c.self.view_is
