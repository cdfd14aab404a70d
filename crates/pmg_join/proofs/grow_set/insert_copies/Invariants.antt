use Rattle.std.proofs.Common.{◌≡◌, ◌||◌}
use Rattle.std.specs.List.{list_any}
use Rattle.std.specs.Ordering.{eq_by_cmp}
use Rattle.std.specs.FinSet as set
use Rattle.pmg_join.specs.Sets.{set_in}
use Rattle.pmg_join.proofs.grow_set.insert_copies.Given as goal

abbrev pub invariant-loop-element : goal.invariant-loop-element
invariant-loop-element g l =
    (q : g.row.T.Denot) → (set.contains (set_in g.T.Ord.cmp l.all.elements) q || list_any (eq_by_cmp g.T.Ord.cmp q) l.element-iterator)
    ≡ set.contains (set.union (set_in g.T.Ord.cmp l.fn.all.elements) (set_in g.T.Ord.cmp l.fn.other.elements)) q
