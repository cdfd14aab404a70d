use Rattle.std.proofs.Common.{ap, ◌∙◌}
use Rattle.std.specs.FinMap as finite
use Rattle.std.specs.Ordering.{nat_cmp}
use Rattle.std.proofs.lemmas.Cmp.{nat_cmp_total}
use Rattle.std.proofs.lemmas.Map.Lookups.{exact_unsigned}
use Rattle.pmg_value.specs.declared.process.Proc.{Proc}
use Rattle.pmg_value.proofs.RowLemmas.{rows_with}
use Rattle.pmg_dmodex.proofs.refreshes.Numbered.set.Goals as goal

pub returns-clause-ok : goal.returns-clause-ok
returns-clause-ok c =
    rows_with nat_cmp_total exact_unsigned (λ (asked : Proc × Proc). asked) c.self.inside.rows.entries c.insert.new.self.entries c.args.number c.args.asked c.in_ok-insert.ensures.updates.0
    ∙ ap (λ (m : finite.FinMap nat_cmp (Proc × Proc)). finite.insert m c.args.number c.args.asked) c.self.view_is
