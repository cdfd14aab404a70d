use Rattle.std.proofs.Common.{ap}
use Rattle.pmg_value.specs.Process.{proc_cmp}
use Rattle.pmg_value.specs.Rows.{rows_of}
use Rattle.pmg_node_parts.specs.Calls.{standing_of}
use Rattle.pmg_node_parts.proofs.CallIndex.{index_empty}
use Rattle.pmg_node_parts.proofs.calls.Calls.new.Goals as goal

pub invariant_of-result : goal.invariant_of-result
invariant_of-result c =
    index_empty (rows_of standing_of c.new.result.entries) c.new-2.result (ap (λ es. rows_of {R = proc_cmp} standing_of es) c.new.ensures.empty) c.new-2.ensures.gets
    c.new-2.ensures.fences
