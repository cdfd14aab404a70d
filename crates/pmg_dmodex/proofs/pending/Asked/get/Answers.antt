use Rattle.std.proofs.Common.{ℕ, sym, ap, ◌∙◌}
use Rattle.std.specs.FinMap as finite
use Rattle.pmg_value.specs.Process.{proc_cmp}
use Rattle.pmg_value.proofs.ProcessOrder.{procs_total}
use Rattle.pmg_value.proofs.RowLemmas.{get-map_of}
use Rattle.pmg_dmodex.proofs.pending.Asked.get.Goals as goal

pub returns : goal.returns
returns c = c.copied.ensures ∙ c.get.ensures.value ∙ sym (get-map_of procs_total c.self.inside.rows.entries c.args.proc.now) ∙ ap (λ (m : finite.FinMap proc_cmp ℕ). finite.get m c.args.proc.now) c.self.view_is
