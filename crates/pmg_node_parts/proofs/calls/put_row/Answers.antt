use Rattle.pmg_value.proofs.ProcessOrder.{procs_total, exact_procs}
use Rattle.pmg_value.proofs.RowLemmas.{rows_with}
use Rattle.pmg_node_parts.specs.Calls.{standing_of}
use Rattle.pmg_node_parts.proofs.calls.put_row.Goals as goal

pub returns-in-Ok-clause-ok : goal.returns-in-Ok-clause-ok
returns-in-Ok-clause-ok c =
    rows_with procs_total exact_procs standing_of c.args.rows.now.entries c.insert.new.self.entries c.args.proc c.args.call (c.in-Ok.ensures).updates.0
