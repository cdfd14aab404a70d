use Rattle.std.proofs.Common.{ℕ, ap, ◌∙◌}
use Rattle.std.specs.FinMap as finite
use Rattle.pmg_value.specs.Process.{proc_cmp}
use Rattle.pmg_value.proofs.ProcessOrder.{procs_total, exact_procs}
use Rattle.pmg_value.proofs.RowLemmas.{rows_without}
use Rattle.pmg_dmodex.proofs.pending.Asked.remove.Goals as goal

pub returns : goal.returns
returns c =
    rows_without procs_total exact_procs (λ (level : ℕ). level) c.self.inside.rows.entries c.remove.new.self.entries c.args.proc.now c.remove.ensures.updates.0
    ∙ ap (λ (m : finite.FinMap proc_cmp ℕ). finite.remove m c.args.proc.now) c.self.view_is
