use Rattle.std.proofs.Common.{◌≡◌, ◌++◌}
use Rattle.std.specs.FinMap as finite
use Rattle.pmg_dmodex.proofs.parked.Askers.list.Given as goal

-- the gets, with those that are left, are all
abbrev pub invariant-loop-asker : goal.invariant-loop-asker
invariant-loop-asker l = l.gets.items ++ l.asker-iterator ≡ finite.entries l.self
