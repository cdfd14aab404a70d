use Rattle.std.proofs.Common.{Option, sym, ap, ◌∙◌}
use Rattle.std.specs.FinMap as finite
use Rattle.std.specs.Option.{unwrap_or}
use Rattle.std.proofs.lemmas.Result.{IfOk-weaker}
use Rattle.pmg_value.specs.Process.{proc_cmp}
use Rattle.pmg_value.proofs.ProcessOrder.{procs_total, exact_procs}
use Rattle.pmg_value.proofs.RowLemmas.{entries_of_nothing, kept_is}
use Rattle.pmg_dmodex.specs.Parked.{Askers}
use Rattle.pmg_dmodex.proofs.parked.Parked.on.Goals as goal

pub returns-in-None : goal.returns-in-None
returns-in-None c =
    let kept = kept_is procs_total exact_procs c.self.inside.rows.entries c.args.self.now c.args.target.now c.self.view_is _ (sym c.in-None.ensures.value) in
    c.new.ensures.items ∙ sym (entries_of_nothing proc_cmp) ∙ ap (λ (there : Option Askers). finite.entries (unwrap_or there finite.empty)) (sym kept)

pub returns-in-Some : goal.returns-in-Some
returns-in-Some c =
    let kept = kept_is procs_total exact_procs c.self.inside.rows.entries c.args.self.now c.args.target.now c.self.view_is _ (sym c.in-Some.ensures.value) in
    IfOk-weaker c.list.result _ _ (λ gets is. is ∙ ap (λ (there : Option Askers). finite.entries (unwrap_or there finite.empty)) (sym kept)) c.list.ensures
