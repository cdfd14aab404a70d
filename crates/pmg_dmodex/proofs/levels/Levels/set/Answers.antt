use Rattle.std.proofs.Common.{ap, ◌∙◌}
use Rattle.std.specs.FinMap as finite
use Rattle.std.specs.Ordering.{nat_cmp}
use Rattle.std.proofs.lemmas.Result.{on_ok_weaker, on_err_weaker}
use Rattle.pmg_value.proofs.ProcessOrder.{procs_total, exact_procs}
use Rattle.pmg_value.proofs.RowLemmas.{kept_whole}
use Rattle.pmg_dmodex.specs.Levels.{NodeLevels}
use Rattle.pmg_dmodex.proofs.InnerLemmas.{grown_there, absent_there}
use Rattle.pmg_dmodex.proofs.levels.Levels.set.Goals as goal

pub grow_row-requires : goal.grow_row-requires
grow_row-requires c = ap (λ (m : NodeLevels). finite.get m c.args.node) c.new-none.ensures ∙ finite.get-empty nat_cmp c.args.node

pub returns-clause-ok : goal.returns-clause-ok
returns-clause-ok c =
    on_ok_weaker c.grow_row.result
    (grown_there c.self.inside.rows.entries c.args.self.now c.args.proc.now c.self.view_is c.args.node c.args.level c.new-none.result c.grow_row.new.rows.entries c.new-none.ensures)
    c.grow_row.ensures.ok

pub returns-clause-err : goal.returns-clause-err
returns-clause-err c =
    on_err_weaker c.grow_row.result
    (kept_whole procs_total exact_procs c.self.inside.rows.entries c.args.self.now c.args.proc.now c.self.view_is c.grow_row.new.rows.entries) c.grow_row.ensures.err

pub returns-clause-absent : goal.returns-clause-absent
returns-clause-absent c =
    on_err_weaker c.grow_row.result
    (absent_there c.self.inside.rows.entries c.args.self.now c.args.proc.now c.self.view_is c.args.node c.new-none.result c.new-none.ensures) c.grow_row.ensures.may_fail
