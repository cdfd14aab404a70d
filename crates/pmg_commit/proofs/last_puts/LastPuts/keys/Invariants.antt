use Rattle.std.proofs.Common.{◌≡◌, ◌++◌, map}
use Rattle.std.specs.FinMap as finite
use Rattle.pmg_commit.proofs.last_puts.LastPuts.keys.Given as goal

abbrev pub invariant-loop-key : goal.invariant-loop-key
invariant-loop-key l = l.keys.items ++ map (λ e. e.0) l.key-iterator ≡ finite.keys l.self
