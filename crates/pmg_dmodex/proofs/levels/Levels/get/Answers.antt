use Rattle.std.proofs.Common.{ℕ, Option, sym, ap, ◌∙◌}
use Rattle.std.specs.FinMap as finite
use Rattle.std.specs.Option.{unwrap_or}
use Rattle.std.specs.Ordering.{nat_cmp}
use Rattle.pmg_value.proofs.ProcessOrder.{procs_total, exact_procs}
use Rattle.pmg_value.proofs.RowLemmas.{kept_is}
use Rattle.pmg_dmodex.specs.Levels.{NodeLevels}
use Rattle.pmg_dmodex.proofs.levels.Levels.get.Goals as goal

abbrev at_node : ℕ → Option NodeLevels → Option ℕ
at_node node there = finite.get (unwrap_or there finite.empty) node

pub returns-in-None : goal.returns-in-None
returns-in-None c =
    let kept = kept_is procs_total exact_procs c.self.inside.rows.entries c.args.self.now c.args.proc.now c.self.view_is _ (sym c.in-None.ensures.value) in
    sym (finite.get-empty nat_cmp c.args.node) ∙ ap (at_node c.args.node) (sym kept)

pub returns-in-Some : goal.returns-in-Some
returns-in-Some c =
    let kept = kept_is procs_total exact_procs c.self.inside.rows.entries c.args.self.now c.args.proc.now c.self.view_is _ (sym c.in-Some.ensures.value) in
    c.get-in-Some.ensures ∙ ap (at_node c.args.node) (sym kept)
