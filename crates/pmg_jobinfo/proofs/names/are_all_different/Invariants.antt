use Rattle.std.proofs.Common.{◌≡◌, map, drop}
use Rattle.pmg_jobinfo.specs.Refusing.{are_distinct}
use Rattle.pmg_jobinfo.proofs.names.are_all_different.Given as goal

abbrev pub invariant-loop-i : goal.invariant-loop-i
invariant-loop-i l = are_distinct (map (λ n. n.now) l.names) ≡ are_distinct (map (λ n. n.now) (drop l.i l.names))
