use Rattle.std.proofs.Common.{◌∙◌}
use Rattle.std.proofs.lemmas.Cmp.{nat_cmp_total}
use Rattle.std.proofs.lemmas.Map.Lookups.{exact_unsigned}
use Rattle.pmg_value.specs.declared.process.Proc.{Proc}
use Rattle.pmg_value.proofs.RowLemmas.{same_rows}
use Rattle.pmg_dmodex.proofs.refreshes.Numbered.copy.Goals as goal

pub returns : goal.returns
returns c = same_rows nat_cmp_total exact_unsigned (λ (asked : Proc × Proc). asked) c.in_ok-copy_rows.field-0.entries c.self.inside.rows.entries c.in_ok-copy_rows.ensures ∙ c.self.view_is
