use Rattle.std.proofs.Common.{◌≡◌, ◌++◌}
use Rattle.std.specs.List.{filter}
use Rattle.std.specs.Vec.Iter.{into_iter_items}
use Rattle.pmg_pset.specs.Sets.{is_live, live_names}
use Rattle.pmg_pset.proofs.sets.Sets.names.Given as goal

abbrev pub invariant-loop-name : goal.invariant-loop-name
invariant-loop-name l = l.names.items ++ filter (is_live l.self) (into_iter_items l.name-iterator) ≡ live_names l.self
