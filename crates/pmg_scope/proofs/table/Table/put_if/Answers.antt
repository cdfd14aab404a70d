use Rattle.std.proofs.Common.{sym, ◌∙◌}
use Rattle.pmg_value.specs.Spelling.{spelling}
use Rattle.pmg_scope.specs.Rows.{restored}
use Rattle.pmg_scope.specs.declared.table.Before.TheVariants as before
use Rattle.pmg_scope.proofs.TableLemmas.{put_restored}
use Rattle.pmg_scope.proofs.table.Table.put_if.Goals as goal

pub returns-clause-before : goal.returns-clause-before
returns-clause-before c =
    let value = spelling c.in_ok-copy-2.field-0 in
    let found = c.in_ok-set.field-0 in
    (λ i. restored (c.in_ok-set.ensures.ok i) (sym c.in_ok-copy.ensures i) (before.Seen found))
    ∙ put_restored c.args.self.now c.in_ok-copy.field-0 value found c.in_ok-set.ensures.before
