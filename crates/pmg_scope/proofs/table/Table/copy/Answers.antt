use Rattle.std.proofs.Common.{◌∙◌}
use Rattle.std.specs.Cmp.Lexicographic.{nat_list_cmp_total}
use Rattle.std.proofs.lemmas.Map.Lookups.{exact_bytes}
use Rattle.pmg_value.specs.Spelling.{spelling}
use Rattle.pmg_value.proofs.RowLemmas.{same_rows}
use Rattle.pmg_scope.proofs.table.Table.copy.Goals as goal

pub returns : goal.returns
returns c = same_rows nat_list_cmp_total exact_bytes spelling c.in_ok-copy_rows.field-0.entries c.self.inside.rows.entries c.in_ok-copy_rows.ensures ∙ c.self.view_is
