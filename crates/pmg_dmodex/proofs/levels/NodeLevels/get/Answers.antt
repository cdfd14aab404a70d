use Rattle.std.proofs.Common.{sym, ap, ◌∙◌}
use Rattle.std.specs.FinMap as finite
use Rattle.std.specs.Cmp.{nat_cmp_total}
use Rattle.pmg_value.proofs.RowLemmas.{get-map_of}
use Rattle.pmg_dmodex.specs.Levels.{NodeLevels}
use Rattle.pmg_dmodex.proofs.levels.NodeLevels.get.Goals as goal

pub returns : goal.returns
returns c = c.copied.ensures ∙ c.get.ensures.value ∙ sym (get-map_of nat_cmp_total c.self.inside.rows.entries c.args.node) ∙ ap (λ (m : NodeLevels). finite.get m c.args.node) c.self.view_is
