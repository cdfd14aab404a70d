use Rattle.std.proofs.Common.{◌≡◌, ◌++◌, map}
use Rattle.std.specs.Vec.Iter.{into_iter_items}
use Rattle.pmg_value.specs.declared.value.Value.TheVariants as values
use Rattle.pmg_pset.proofs.members.values_of.Given as goal

abbrev pub invariant-loop-process : goal.invariant-loop-process
invariant-loop-process l = l.values.items ++ map values.Proc (into_iter_items l.process-iterator) ≡ map values.Proc l.fn.procs.items
