use Rattle.std.proofs.Common.{sym, ap, ◌∙◌}
use Rattle.std.specs.FinMap as map
use Rattle.std.specs.Cmp.Lexicographic.{nat_list_cmp_total}
use Rattle.pmg_value.specs.Spelling.{spelling}
use Rattle.pmg_value.proofs.RowLemmas.{len_rising}
use Rattle.pmg_scope.proofs.table.Table.len.Goals as goal

pub returns : goal.returns
returns c = c.len.ensures.len ∙ sym (len_rising nat_list_cmp_total spelling c.self.inside.rows.entries c.len.ensures.ordered) ∙ ap map.len c.self.view_is
