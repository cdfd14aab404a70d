use Rattle.std.proofs.Common.{◌≡◌, map, drop}
use Rattle.std.specs.List.{list_any}
use Rattle.std.specs.Ordering.{nat_cmp, eq_by_cmp}
use Rattle.std.specs.Cmp.Lexicographic.{slice_cmp}
use Rattle.pmg_jobinfo.proofs.names.is_among.Given as goal

abbrev pub invariant-loop-other : goal.invariant-loop-other
invariant-loop-other l =
    list_any (eq_by_cmp (slice_cmp nat_cmp) l.name) (map (λ n. n.now) l.names) ≡ list_any (eq_by_cmp (slice_cmp nat_cmp) l.name) (map (λ n. n.now) (drop l.other-index l.names))
