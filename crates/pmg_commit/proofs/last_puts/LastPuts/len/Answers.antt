use Rattle.std.proofs.Common.{sym, ap, ◌∙◌}
use Rattle.std.specs.FinMap as finite
use Rattle.std.specs.Cmp.Lexicographic.{nat_list_cmp_total}
use Rattle.pmg_value.proofs.RowLemmas.{len_rising}
use Rattle.pmg_commit.specs.Stamped.{stamp_of}
use Rattle.pmg_commit.proofs.last_puts.LastPuts.len.Goals as goal

pub returns : goal.returns
returns c = c.len.ensures.len ∙ sym (len_rising nat_list_cmp_total stamp_of c.self.inside.rows.entries c.len.ensures.ordered) ∙ ap finite.len c.self.view_is
