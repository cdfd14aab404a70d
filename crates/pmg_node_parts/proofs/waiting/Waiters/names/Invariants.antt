use Rattle.std.proofs.Common.{◌≡◌, ◌++◌, map}
use Rattle.std.specs.FinMap as finite
use Rattle.std.specs.Map.{keys_of}
use Rattle.pmg_node_parts.proofs.waiting.Waiters.names.Given as goal

abbrev pub invariant-loop-name : goal.invariant-loop-name
invariant-loop-name l = map (λ f. f.now) l.names.items ++ keys_of l.name-iterator ≡ finite.keys l.self
