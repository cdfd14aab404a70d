use Rattle.std.proofs.Common.{ap, sym, subst, ◌∙◌}
use Rattle.std.specs.FinMap as finite
use Rattle.std.specs.Option.{unwrap_or}
use Rattle.pmg_value.specs.Rows.{rows_of, changed_at}
use Rattle.pmg_node_parts.specs.Calls.{standing_of, standing_by}
use Rattle.pmg_node_parts.specs.Codes.{Calls}
use Rattle.pmg_node_parts.specs.Waiting.{IsWaitingIndex}
use Rattle.pmg_node_parts.proofs.CallIndex.{index_settled}
use Rattle.pmg_node_model.specs.Holdings.{CallState}
use Rattle.pmg_node_parts.proofs.calls.Calls.settle.Goals as goal

pub invariant_of-self : goal.invariant_of-self
invariant_of-self c =
    let p = c.args.proc.now in
    let old : Calls = rows_of standing_of c.self.inside.rows.entries in
    let left = c.change_row-left.ensures.left ∙ ap (λ (s : CallState). unwrap_or (finite.get old p) s) c.into_call.ensures in
    let rows = c.change_row-left.ensures.rows ∙ ap (changed_at old p) c.into_call.ensures in
    subst (λ (m : Calls). IsWaitingIndex m c.remove.new.self) (sym rows)
    (subst (IsWaitingIndex (changed_at old p (standing_by c.args.settled))) (sym c.remove.ensures)
    (index_settled old c.self.inside.waiting c.self.invariant p c.args.settled (standing_of c.change_row-left.result) left))

pub returns : goal.returns
returns c =
    c.change_row-left.ensures.rows
    ∙ ap (changed_at (rows_of standing_of c.self.inside.rows.entries) c.args.proc.now) c.into_call.ensures
    ∙ ap (λ (m : Calls). changed_at m c.args.proc.now (standing_by c.args.settled)) c.self.view_is
