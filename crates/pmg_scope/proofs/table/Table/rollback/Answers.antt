use Rattle.std.proofs.Common.{sym, ap, ◌∙◌}
use Rattle.std.specs.Cmp.Lexicographic.{nat_list_cmp_total}
use Rattle.std.proofs.lemmas.Map.Lookups.{exact_bytes}
use Rattle.pmg_value.specs.Spelling.{spelling}
use Rattle.pmg_value.proofs.RowLemmas.{rows_back}
use Rattle.pmg_scope.specs.Rows.{restored}
use Rattle.pmg_scope.proofs.table.Table.rollback.Goals as goal

pub returns-in-Seen : goal.returns-in-Seen
returns-in-Seen c =
    rows_back nat_list_cmp_total exact_bytes spelling c.self.inside.rows.entries c.put_back.new.rows.entries c.args.self.now c.args.key.now c.in-Seen.found c.self.view_is c.put_back.ensures
    ∙ sym (ap (restored c.args.self.now c.args.key.now) c.in-Seen.is)
