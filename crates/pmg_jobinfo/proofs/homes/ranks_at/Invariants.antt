use Rattle.std.proofs.Common.{◌≡◌, ◌==◌, get_or}
use Rattle.std.specs.List.{filter}
use Rattle.pmg_jobinfo.specs.Expansion.{ranks}
use Rattle.pmg_jobinfo.proofs.homes.ranks_at.Given as goal

-- the ranks so far are those before this one
abbrev pub invariant-loop-rank : goal.invariant-loop-rank
invariant-loop-rank l = l.ranks.items ≡ filter (λ rank. get_or l.homes rank 0 == l.fn.node) (ranks l.rank)
