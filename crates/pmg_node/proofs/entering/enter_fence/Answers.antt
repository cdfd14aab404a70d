use Rattle.std.proofs.Common.{◌≡◌, sym, ap, ◌∙◌}
use Rattle.std.specs.FinMap as finite
use Rattle.pmg_value.proofs.ProcessOrder.{procs_total, exact_procs}
use Rattle.pmg_value.proofs.RowLemmas.{remove_inserted}
use Rattle.pmg_fence.specs.Kept.{placed_by}
use Rattle.pmg_fence.specs.declared.change.Change.TheVariants as changes
use Rattle.pmg_node_parts.specs.Codes.{Calls}
use Rattle.pmg_node_model.specs.Holdings.{CallState, mapped}
use Rattle.pmg_node_model.specs.Kept.{is_in, settle_where}
use Rattle.pmg_node_parts.specs.Owns.{sealed_of}
use Rattle.pmg_node.proofs.entering.enter_fence.Goals as goal

pub put-requires : goal.put-requires
put-requires c = ap (finite.get c.args.calls.now) c.in_ok-copy-2.ensures ∙ c.requires.free

pub returns-in-Err-clause-calls_err : goal.returns-in-Err-clause-calls_err
returns-in-Err-clause-calls_err c =
    let calls = c.args.calls.now in
    let p = c.args.proc.now in
    c.remove.ensures.rest
    ∙ ap (λ (m : Calls). finite.remove m p)
    (c.in-Err.ensures.calls_err ∙ c.in_ok-put.ensures.ok ∙ (λ i. finite.insert calls (c.in_ok-copy-2.ensures i) (CallState.in_fence (c.in_ok-copy-3.ensures i))))
    ∙ remove_inserted procs_total exact_procs calls p (CallState.in_fence c.args.name.now) c.requires.free

pub returns-clause-calls : goal.returns-clause-calls
returns-clause-calls c h table near far =
    let p = c.args.proc.now in
    let name = c.args.name.now in
    let change : changes.Entered c.in_ok-copy.field-0 c.level.result ≡ changes.Entered p (sealed_of c.args.around.now.own.now p).level =
    λ i. changes.Entered (c.in_ok-copy.ensures i) (c.level.ensures.value i) in
    let calls : c.put.new.self ≡ finite.insert c.args.calls.now p (CallState.in_fence name) =
    c.in_ok-put.ensures.ok ∙ (λ i. finite.insert c.args.calls.now (c.in_ok-copy-2.ensures i) (CallState.in_fence (c.in_ok-copy-3.ensures i))) in
    c.in_default.ensures.calls h (table ∙ sym (ap (placed_by c.args.table.now.fences name) change)) near far
    ∙ ap (λ (m : Calls). mapped (settle_where c.args.table.now.jobs c.args.around.now.id h (is_in name)) m) calls
