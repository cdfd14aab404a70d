use Rattle.std.proofs.Common.{sym, ap, ◌∙◌}
use Rattle.std.specs.FinMap as finite
use Rattle.std.specs.Ordering.{nat_cmp}
use Rattle.std.proofs.lemmas.Cmp.{nat_cmp_total}
use Rattle.std.proofs.lemmas.Map.Lookups.{exact_unsigned}
use Rattle.pmg_value.specs.declared.process.Proc.{Proc}
use Rattle.pmg_value.proofs.RowLemmas.{get-map_of, rows_without}
use Rattle.pmg_dmodex.proofs.refreshes.Numbered.remove.Goals as goal

pub returns-clause-left : goal.returns-clause-left
returns-clause-left c =
    rows_without nat_cmp_total exact_unsigned (λ (asked : Proc × Proc). asked) c.self.inside.rows.entries c.remove.new.self.entries c.args.number c.remove.ensures.updates.0
    ∙ ap (λ (m : finite.FinMap nat_cmp (Proc × Proc)). finite.remove m c.args.number) c.self.view_is

pub returns-clause-asked : goal.returns-clause-asked
returns-clause-asked c =
    c.remove.ensures.value ∙ sym (get-map_of nat_cmp_total c.self.inside.rows.entries c.args.number)
    ∙ ap (λ (m : finite.FinMap nat_cmp (Proc × Proc)). finite.get m c.args.number) c.self.view_is
