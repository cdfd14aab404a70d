use Rattle.std.proofs.Common.{◌++◌, ◌∙◌}
use Rattle.std.specs.List.{flat_map}
use Rattle.std.specs.Option.{option_to_list}
use Rattle.pmg_node_parts.specs.Calls.{standing_of, ask_of}
use Rattle.pmg_node_parts.proofs.CallLemmas.{gathered_rows}
use Rattle.pmg_node_parts.proofs.calls.Calls.asks.Goals as goal

pub loop-call-init : goal.loop-call-init
loop-call-init c =
    let start = c.into_iter-call-iterator.ensures.into_iter_gives ∙ c.iter-call-items.ensures.rest in
    (λ i. c.new-asks.ensures.items i ++ flat_map (λ e. option_to_list (ask_of (standing_of e.1))) (start i))
    ∙ gathered_rows (λ e. option_to_list (ask_of e.1)) c.self.inside.rows.entries c.args.self.now c.iter-call-items.ensures.ordered c.self.view_is
