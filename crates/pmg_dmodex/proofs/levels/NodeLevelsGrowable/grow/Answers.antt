use Rattle.std.proofs.Common.{ℕ, sym, ap, ◌∙◌}
use Rattle.std.specs.FinMap as finite
use Rattle.std.proofs.lemmas.Result.{err_from_is_err_and}
use Rattle.std.specs.FinMap.{nat_cmp-IsAntisymmetric}
use Rattle.std.specs.Cmp.{nat_cmp_total}
use Rattle.pmg_value.proofs.RowLemmas.{get-map_of, rows_with}
use Rattle.pmg_dmodex.specs.Levels.{NodeLevels}
use Rattle.pmg_dmodex.proofs.levels.NodeLevelsGrowable.grow.Goals as goal

pub returns-clause-ok : goal.returns-clause-ok
returns-clause-ok c =
    rows_with nat_cmp_total nat_cmp-IsAntisymmetric (λ (level : ℕ). level) c.self.inside.rows.entries c.insert.new.self.entries c.args.part.0 c.args.part.1 c.in_ok-insert.ensures.updates.0
    ∙ ap (λ (m : NodeLevels). finite.insert m c.args.part.0 c.args.part.1) c.self.view_is

pub returns-in_err-insert-clause-may_fail : goal.returns-in_err-insert-clause-may_fail
returns-in_err-insert-clause-may_fail c =
    let p = err_from_is_err_and c.from_residual.result c.from_residual.ensures.1 in
    rw p.1 (ap (λ (m : NodeLevels). finite.get m c.args.part.0) (sym c.self.view_is) ∙ get-map_of nat_cmp_total c.self.inside.rows.entries c.args.part.0 ∙ c.in_err-insert.ensures.absent)
