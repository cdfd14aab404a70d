-- The progress of an order in the code.
use Rattle.std.specs.Prelude.{ℕ, ◌+◌, ◌<◌, List, length, map}
use Rattle.pmg_value.specs.Lists.{In}
use Rattle.pmg_world.specs.Telling.{happened_of}
use Rattle.pmg_audit.specs.Codes.{all_of}
use Rattle.pmg_audit.specs.Going.{IsOrderGoing, IsReady, left}
use Rattle.pmg_audit.specs.Moves.{Move}
use Rattle.pmg_audit.specs.Sends.{AreNumbered}
use Rattle.pmg_audit.specs.declared.ordering.Making.{Making}

-- The progress of the order of all moves. Each node whose next move may come is awake.
pub record IsMaking (all : List (List Move)) (m : Making) : Type 0 where
  pub going : IsOrderGoing all (all_of m.lanes.items) m.sends.frames.items (map happened_of m.told.items)
  pub numbered : AreNumbered m.sends
  pub awake : (n : ℕ) → IsReady (all_of m.lanes.items) m.sends.frames.items n → In n m.awake.items

-- the work that remains: the weight of the remaining moves, and the number of awake nodes
abbrev pub work : Making → ℕ
work m = left (all_of m.lanes.items) + length m.awake.items

-- the step keeps an order of any moves, and reduces the remaining work
pub record OrderGoesOn (m m2 : Making) : Type 0 where
  pub making : (all : List (List Move)) → IsMaking all m → IsMaking all m2
  pub less : work m2 < work m
