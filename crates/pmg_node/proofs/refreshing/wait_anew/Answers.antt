use Rattle.std.proofs.Common.{◌+◌, ap, ◌∙◌}
use Rattle.std.specs.FinMap as finite
use Rattle.pmg_value.proofs.ProcessOrder.{procs_total, exact_procs}
use Rattle.pmg_node_parts.specs.Calls.{get_of}
use Rattle.pmg_node_parts.specs.Codes.{Calls}
use Rattle.pmg_node_model.specs.Holdings.{CallState}
use Rattle.pmg_value.proofs.RowLemmas.{remove_inserted}
use Rattle.pmg_node.proofs.refreshing.wait_anew.Goals as goal

pub returns-in-Err-clause-calls_err : goal.returns-in-Err-clause-calls_err
returns-in-Err-clause-calls_err c =
    let calls = c.args.calls.now in
    let p = c.args.proc.now in
    let standing = CallState.refreshing (get_of c.in_ok-copy.field-0 c.in_ok-copy-2.field-0) (c.last_request-number.result + 1) in
    c.remove.ensures.rest
    ∙ ap (λ (m : Calls). finite.remove m p) (c.in_ok-put.ensures.ok ∙ (λ i. finite.insert calls (c.in_ok-asker.ensures i) standing))
    ∙ remove_inserted procs_total exact_procs calls p standing c.requires.free
