use Rattle.pmg_value.proofs.ProcessOrder.{procs_total}
use Rattle.pmg_value.proofs.RowLemmas.{read_rows}
use Rattle.pmg_node_parts.specs.Calls.{standing_of}
use Rattle.pmg_node_parts.proofs.calls.Calls.get.Goals as goal

pub returns : goal.returns
returns c = read_rows procs_total standing_of c.self.inside.rows.entries c.args.self.now c.args.proc.now c.get.result c.self.view_is c.get.ensures.value
