use Rattle.pmg_value.proofs.ProcessOrder.{procs_total}
use Rattle.pmg_value.proofs.RowLemmas.{read_rows}
use Rattle.pmg_commit.specs.Sealed.{Sealed}
use Rattle.pmg_node_parts.proofs.sealers.Sealers.get.Goals as goal

pub returns : goal.returns
returns c = read_rows procs_total (λ (z : Sealed). z) c.self.inside.rows.entries c.args.self.now c.args.proc.now c.get.result c.self.view_is c.get.ensures.value
