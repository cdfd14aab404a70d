use Rattle.std.proofs.Common.{Option, sym, ap, ◌∙◌}
use Rattle.std.specs.FinMap as finite
use Rattle.std.specs.Option.{unwrap_or}
use Rattle.std.proofs.lemmas.Result.{IfOk-weaker}
use Rattle.pmg_value.proofs.ProcessOrder.{procs_total, exact_procs}
use Rattle.pmg_value.proofs.RowLemmas.{kept_is}
use Rattle.pmg_dmodex.specs.Levels.{NodeLevels, below}
use Rattle.pmg_dmodex.proofs.LevelLemmas.{nothing_below}
use Rattle.pmg_dmodex.proofs.levels.Levels.below.Goals as goal

pub returns-in-None : goal.returns-in-None
returns-in-None c =
    let kept = kept_is procs_total exact_procs c.self.inside.rows.entries c.args.self.now c.args.proc.now c.self.view_is _ (sym c.in-None.ensures.value) in
    c.new.ensures.items ∙ nothing_below c.args.level ∙ ap (λ (there : Option NodeLevels). below c.args.level (unwrap_or there finite.empty)) (sym kept)

pub returns-in-Some : goal.returns-in-Some
returns-in-Some c =
    let kept = kept_is procs_total exact_procs c.self.inside.rows.entries c.args.self.now c.args.proc.now c.self.view_is _ (sym c.in-Some.ensures.value) in
    IfOk-weaker c.below.result _ _ (λ pairs is. is ∙ ap (λ (there : Option NodeLevels). below c.args.level (unwrap_or there finite.empty)) (sym kept)) c.below.ensures
