use Rattle.std.proofs.Common.{◌≡◌, length}
use Rattle.pmg_threads.specs.Running.{FitFrom, IsDeskOf}
use Rattle.pmg_threads.proofs.desks.push_desks.Given as goal

-- the desks so far are those of the first nodes
abbrev pub invariant-loop-index : goal.invariant-loop-index
invariant-loop-index g l = (length l.desks.items ≡ l.index) × FitFrom (IsDeskOf l.registry) 0 l.desks.items
