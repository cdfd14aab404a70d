use Rattle.std.proofs.Common.{◌≡◌, ◌++◌}
use Rattle.std.specs.List.{flat_map}
use Rattle.std.specs.Option.{option_to_list}
use Rattle.pmg_node_parts.specs.Calls.{standing_of, ask_of, all_asks}
use Rattle.pmg_node_parts.proofs.calls.Calls.asks.Given as goal

abbrev pub invariant-loop-call : goal.invariant-loop-call
invariant-loop-call l = l.asks.items ++ flat_map (λ e. option_to_list (ask_of (standing_of e.1))) l.call-iterator ≡ all_asks l.self
