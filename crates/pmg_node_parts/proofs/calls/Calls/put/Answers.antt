use Rattle.std.proofs.Common.{ap, sym, subst, ◌∙◌}
use Rattle.std.specs.FinMap as finite
use Rattle.pmg_value.specs.Rows.{rows_of}
use Rattle.pmg_node_parts.specs.Calls.{standing_of}
use Rattle.pmg_node_parts.specs.Codes.{Calls}
use Rattle.pmg_node_parts.specs.Waiting.{IsWaitingIndex, without_call}
use Rattle.pmg_node_parts.proofs.CallIndex.{index_put, index_back}
use Rattle.pmg_node_parts.proofs.calls.Calls.put.Goals as goal

pub invariant_of-self-in_default : goal.invariant_of-self-in_default
invariant_of-self-in_default c =
    let p = c.args.proc in
    let s = standing_of c.args.call in
    let old : Calls = rows_of standing_of c.self.inside.rows.entries in
    let free = ap (λ (m : Calls). finite.get m p) c.self.view_is ∙ c.requires in
    subst (λ (m : Calls). IsWaitingIndex m c.add.new.self) (sym c.in_default.ensures.ok)
    (subst (IsWaitingIndex (finite.insert old p s)) (sym c.in_ok-add.ensures.ok) (index_put old c.self.inside.waiting c.self.invariant p s free))

pub invariant_of-self-in-Err : goal.invariant_of-self-in-Err
invariant_of-self-in-Err c =
    let p = c.args.proc in
    let s = standing_of c.args.call in
    let old : Calls = rows_of standing_of c.self.inside.rows.entries in
    let free = ap (λ (m : Calls). finite.get m p) c.self.view_is ∙ c.requires in
    let taken = c.rollback.ensures ∙ (λ i. without_call (c.in_ok-add.ensures.ok i) (c.in-Err.ensures.back i).0 (standing_of (c.in-Err.ensures.back i).1)) in
    subst (λ (m : Calls). IsWaitingIndex m c.rollback.new.self) (sym c.in-Err.ensures.err)
    (subst (IsWaitingIndex old) (sym taken) (index_back old c.self.inside.waiting c.self.invariant p s free))
