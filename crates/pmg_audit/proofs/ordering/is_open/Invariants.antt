use Rattle.std.proofs.Common.{◌≡◌, ℕ, ◌<◌, []}
use Rattle.pmg_audit.specs.Codes.{all_of}
use Rattle.pmg_audit.specs.Orders.{moves_at}
use Rattle.pmg_audit.proofs.ordering.is_open.Given as goal

abbrev pub invariant-loop-lane : goal.invariant-loop-lane
invariant-loop-lane l = (n : ℕ) → n < l.lane-index → moves_at (all_of l.lanes) n ≡ []
