use Rattle.std.proofs.Common.{ℕ, ap, ◌∙◌}
use Rattle.std.specs.FinMap as finite
use Rattle.pmg_value.specs.Process.{proc_cmp}
use Rattle.pmg_value.proofs.ProcessOrder.{procs_total, exact_procs}
use Rattle.pmg_value.proofs.RowLemmas.{rows_with}
use Rattle.pmg_dmodex.proofs.pending.Asked.set.Goals as goal

pub returns-clause-ok : goal.returns-clause-ok
returns-clause-ok c =
    rows_with procs_total exact_procs (λ (level : ℕ). level) c.self.inside.rows.entries c.insert.new.self.entries c.args.proc c.args.level c.in_ok-insert.ensures.updates.0
    ∙ ap (λ (m : finite.FinMap proc_cmp ℕ). finite.insert m c.args.proc c.args.level) c.self.view_is
