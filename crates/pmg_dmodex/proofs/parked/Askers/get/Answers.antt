use Rattle.std.proofs.Common.{ℕ, List}
use Rattle.pmg_value.proofs.ProcessOrder.{procs_total}
use Rattle.pmg_value.proofs.RowLemmas.{read_rows}
use Rattle.pmg_dmodex.proofs.parked.Askers.get.Goals as goal

pub returns : goal.returns
returns c = read_rows procs_total (λ (key : List ℕ). key) c.self.inside.rows.entries c.args.self.now c.args.asker.now c.get.result c.self.view_is c.get.ensures.value
