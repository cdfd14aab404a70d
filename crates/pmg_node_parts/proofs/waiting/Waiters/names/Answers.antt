use Rattle.std.proofs.Common.{◌++◌, map, sym, ap, ◌∙◌}
use Rattle.std.specs.FinMap as finite
use Rattle.std.specs.Map.{keys_of}
use Rattle.pmg_value.proofs.RowLemmas.{entries-map_of}
use Rattle.pmg_frame.specs.FenceOrder.{name_total}
use Rattle.pmg_node_parts.specs.Waiters.{Waiters}
use Rattle.pmg_node_parts.proofs.waiting.Waiters.names.Goals as goal

pub loop-name-init : goal.loop-name-init
loop-name-init c =
    (λ i. map (λ f. f.now) (c.in_ok-names.ensures.items i) ++ keys_of ((c.into_iter-name-iterator.ensures.into_iter_gives ∙ c.iter-name-items.ensures.rest) i))
    ∙ ap keys_of (sym (entries-map_of name_total c.self.inside.rows.entries c.iter-name-items.ensures.ordered)) ∙ ap (λ (m : Waiters). finite.keys m) c.self.view_is
