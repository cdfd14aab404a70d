use Rattle.std.proofs.Common.{ℕ, List, ap, ◌∙◌}
use Rattle.std.specs.FinMap as finite
use Rattle.pmg_value.proofs.ProcessOrder.{procs_total, exact_procs}
use Rattle.pmg_value.proofs.RowLemmas.{rows_with}
use Rattle.pmg_dmodex.specs.Parked.{Askers}
use Rattle.pmg_dmodex.proofs.parked.AskersGrowable.grow.Goals as goal

pub returns-clause-ok : goal.returns-clause-ok
returns-clause-ok c =
    rows_with procs_total exact_procs (λ (key : List ℕ). key) c.self.inside.rows.entries c.insert.new.self.entries c.args.part.0 c.args.part.1 c.in_ok-insert.ensures.updates.0
    ∙ ap (λ (m : Askers). finite.insert m c.args.part.0 c.args.part.1) c.self.view_is
