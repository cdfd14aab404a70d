use Rattle.pmg_value.specs.declared.array.Array.TheDeep.{size-Value}
use Rattle.pmg_value.proofs.Dropping.{list_depth}
use Rattle.pmg_value.proofs.+drop.Given as goal

abbrev pub decreases-value::Value::drop : goal.decreases-value::Value::drop
decreases-value::Value::drop l = size-Value l.self

abbrev pub decreases-array::ItemList::drop : goal.decreases-array::ItemList::drop
decreases-array::ItemList::drop l = list_depth l.self
