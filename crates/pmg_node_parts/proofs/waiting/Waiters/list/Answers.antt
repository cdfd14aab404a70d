use Rattle.std.proofs.Common.{Option, sym, ap, ◌∙◌}
use Rattle.std.specs.FinSet as set
use Rattle.std.specs.Option.{unwrap_or}
use Rattle.std.proofs.lemmas.Result.{IfOk-weaker}
use Rattle.pmg_value.specs.InOrder.{in_order}
use Rattle.pmg_value.proofs.RowLemmas.{kept_is}
use Rattle.pmg_frame.specs.FenceOrder.{name_total}
use Rattle.pmg_frame.proofs.FenceOrderLemmas.{names_exact}
use Rattle.pmg_node_parts.specs.Waiters.{Procs}
use Rattle.pmg_node_parts.proofs.WaiterLemmas.{nobody_in_order}
use Rattle.pmg_node_parts.proofs.waiting.Waiters.list.Goals as goal

pub returns-in-None : goal.returns-in-None
returns-in-None c =
    let kept = kept_is name_total names_exact c.self.inside.rows.entries c.args.self.now c.args.name.now c.self.view_is _ (sym c.in-None.ensures.value) in
    c.new.ensures.items ∙ sym nobody_in_order ∙ ap (λ (there : Option Procs). in_order (unwrap_or there set.empty)) (sym kept)

pub returns-in-Some : goal.returns-in-Some
returns-in-Some c =
    let kept = kept_is name_total names_exact c.self.inside.rows.entries c.args.self.now c.args.name.now c.self.view_is _ (sym c.in-Some.ensures.value) in
    IfOk-weaker c.list.result _ _ (λ procs is. is ∙ ap (λ (there : Option Procs). in_order (unwrap_or there set.empty)) (sym kept)) c.list.ensures
