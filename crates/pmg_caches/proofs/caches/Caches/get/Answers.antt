use Rattle.pmg_value.proofs.ProcessOrder.{procs_total}
use Rattle.pmg_value.proofs.RowLemmas.{read_rows}
use Rattle.pmg_scope.specs.Cached.{Cached}
use Rattle.pmg_caches.proofs.caches.Caches.get.Goals as goal

pub returns : goal.returns
returns c = read_rows procs_total (λ (z : Cached). z) c.self.inside.rows.entries c.args.self.now c.args.proc.now c.get.result c.self.view_is c.get.ensures.value
