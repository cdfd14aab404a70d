use Rattle.std.proofs.Common.{ap, sym, subst, ◌∙◌}
use Rattle.std.specs.FinMap as finite
use Rattle.std.specs.Option.{option_map}
use Rattle.pmg_value.specs.Rows.{rows_of}
use Rattle.pmg_value.proofs.ProcessOrder.{procs_total, exact_procs}
use Rattle.pmg_value.proofs.RowLemmas.{rows_without, get-rows_of}
use Rattle.pmg_node_parts.specs.Calls.{standing_of}
use Rattle.pmg_node_parts.specs.Codes.{Calls}
use Rattle.pmg_node_parts.specs.Waiting.{IsWaitingIndex}
use Rattle.pmg_node_parts.proofs.CallIndex.{index_removed}
use Rattle.pmg_node_parts.proofs.calls.Calls.remove.Goals as goal

pub invariant_of-self : goal.invariant_of-self
invariant_of-self c =
    let p = c.args.proc.now in
    let old : Calls = rows_of standing_of c.self.inside.rows.entries in
    let there = get-rows_of procs_total standing_of c.self.inside.rows.entries p ∙ ap (option_map standing_of) (sym c.remove-call.ensures.value ∙ c.in-Some.is) in
    let rows = rows_without procs_total exact_procs standing_of c.self.inside.rows.entries c.remove-call.new.self.entries p (λ q. c.remove-call.ensures.updates.0 q) in
    subst (λ (m : Calls). IsWaitingIndex m c.remove.new.self) (sym rows)
    (subst (IsWaitingIndex (finite.remove old p)) (sym c.remove.ensures) (index_removed old c.self.inside.waiting c.self.invariant p (standing_of c.in-Some.call) there))

pub returns-in-Some-clause-call : goal.returns-in-Some-clause-call
returns-in-Some-clause-call c =
    ap (option_map standing_of) c.remove-call.ensures.value
    ∙ sym (get-rows_of procs_total standing_of c.self.inside.rows.entries c.args.proc.now)
    ∙ ap (λ (m : Calls). finite.get m c.args.proc.now) c.self.view_is

pub returns-in-Some-clause-rest : goal.returns-in-Some-clause-rest
returns-in-Some-clause-rest c =
    rows_without procs_total exact_procs standing_of _ _ _ (λ q. c.remove-call.ensures.updates.0 q) ∙ ap (λ (m : Calls). finite.remove m c.args.proc.now) c.self.view_is

pub returns-in_default-clause-call : goal.returns-in_default-clause-call
returns-in_default-clause-call c =
    ap (option_map standing_of) c.remove-call.ensures.value
    ∙ sym (get-rows_of procs_total standing_of c.self.inside.rows.entries c.args.proc.now)
    ∙ ap (λ (m : Calls). finite.get m c.args.proc.now) c.self.view_is

pub returns-in_default-clause-rest : goal.returns-in_default-clause-rest
returns-in_default-clause-rest c =
    rows_without procs_total exact_procs standing_of _ _ _ (λ q. c.remove-call.ensures.updates.0 q) ∙ ap (λ (m : Calls). finite.remove m c.args.proc.now) c.self.view_is
