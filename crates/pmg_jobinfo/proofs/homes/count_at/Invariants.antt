use Rattle.std.proofs.Common.{◌≡◌, ◌≤◌, take}
use Rattle.pmg_jobinfo.specs.Reserved.{count_at}
use Rattle.pmg_jobinfo.proofs.homes.count_at.Given as goal

-- the count so far is that of the homes so far
abbrev pub invariant-loop-home : goal.invariant-loop-home
invariant-loop-home l = (l.count ≡ count_at l.node (take l.home-index l.homes)) × (l.count ≤ l.home-index)
