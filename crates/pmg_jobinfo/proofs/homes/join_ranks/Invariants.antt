use Rattle.std.proofs.Common.{◌≡◌, ◌++◌, take, codes, decimal}
use Rattle.std.specs.List.{flat_map}
use Rattle.pmg_jobinfo.proofs.homes.join_ranks.Given as goal

-- the text so far has the first rank, and those so far
abbrev pub invariant-loop-rank : goal.invariant-loop-rank
invariant-loop-rank l = l.text.items ≡ l.initial.text.items ++ flat_map (λ n. codes "," ++ decimal n) (take l.rank-index l.others)
