use Rattle.std.proofs.Common.{◌≡◌, map}
use Rattle.pmg_join.specs.Joins as joins
use Rattle.pmg_join.proofs.many.join_all.Given as goal

abbrev pub invariant-loop-other : goal.invariant-loop-other
invariant-loop-other g l =
    joins.join_all g.J.Join.joined (g.J.Join.meaning l.all) (map g.J.Join.meaning l.other-iterator.rest.items)
    ≡ joins.join_all g.J.Join.joined (g.J.Join.meaning l.fn.first) (map g.J.Join.meaning l.fn.others.items)
