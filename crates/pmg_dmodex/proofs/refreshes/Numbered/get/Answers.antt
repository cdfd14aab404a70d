use Rattle.std.proofs.lemmas.Cmp.{nat_cmp_total}
use Rattle.pmg_value.specs.declared.process.Proc.{Proc}
use Rattle.pmg_value.proofs.RowLemmas.{read_rows}
use Rattle.pmg_dmodex.proofs.refreshes.Numbered.get.Goals as goal

pub returns : goal.returns
returns c = read_rows nat_cmp_total (λ (asked : Proc × Proc). asked) c.self.inside.rows.entries c.args.self.now c.args.number c.get.result c.self.view_is c.get.ensures.value
