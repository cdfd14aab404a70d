use Rattle.std.proofs.Common.{◌≡◌, ◌++◌, nat_lt}
use Rattle.std.specs.Prelude.{filter}
use Rattle.pmg_dmodex.specs.Levels.{below}
use Rattle.pmg_dmodex.proofs.levels.NodeLevels.below.Given as goal

-- the pairs, with those below the level of the rows that are left, are all those below the level
abbrev pub invariant-loop-node : goal.invariant-loop-node
invariant-loop-node l = l.pairs.items ++ filter (λ e. nat_lt e.1 l.level) l.node-iterator ≡ below l.level l.self
