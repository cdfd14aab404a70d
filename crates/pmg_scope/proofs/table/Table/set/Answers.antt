use Rattle.std.proofs.Common.{sym, ap, ◌∙◌}
use Rattle.std.specs.FinMap as map
use Rattle.std.specs.Option.{option_map}
use Rattle.std.specs.Cmp.Lexicographic.{nat_list_cmp_total}
use Rattle.std.proofs.lemmas.Map.Lookups.{exact_bytes}
use Rattle.pmg_value.specs.Spelling.{spelling}
use Rattle.pmg_scope.specs.Cached.{Table}
use Rattle.pmg_value.proofs.RowLemmas.{rows_with, get-rows_of}
use Rattle.pmg_scope.proofs.table.Table.set.Goals as goal

pub returns-clause-ok : goal.returns-clause-ok
returns-clause-ok c =
    rows_with nat_list_cmp_total exact_bytes spelling c.self.inside.rows.entries c.insert.new.self.entries c.args.key c.args.value (c.in_ok-insert.ensures).updates.0
    ∙ ap (λ (m : Table). map.insert m c.args.key (spelling c.args.value)) c.self.view_is

pub returns-clause-before : goal.returns-clause-before
returns-clause-before c =
    ap (option_map spelling) c.in_ok-insert.ensures.old
    ∙ sym (get-rows_of nat_list_cmp_total spelling c.self.inside.rows.entries c.args.key)
    ∙ ap (λ (m : Table). map.get m c.args.key) c.self.view_is
