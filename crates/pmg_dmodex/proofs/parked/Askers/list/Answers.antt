use Rattle.std.proofs.Common.{◌++◌, sym, ap, ◌∙◌}
use Rattle.std.specs.FinMap as finite
use Rattle.pmg_value.proofs.ProcessOrder.{procs_total}
use Rattle.pmg_value.proofs.RowLemmas.{entries-map_of}
use Rattle.pmg_dmodex.proofs.parked.Askers.list.Goals as goal

pub loop-asker-init : goal.loop-asker-init
loop-asker-init c =
    (λ i. c.in_ok-gets.ensures.items i ++ (c.into_iter-asker-iterator.ensures.into_iter_gives ∙ c.iter-asker-items.ensures.rest) i)
    ∙ sym (entries-map_of procs_total c.self.inside.rows.entries c.iter-asker-items.ensures.ordered) ∙ ap finite.entries c.self.view_is
