use Rattle.std.proofs.Common.{arith, rules, ◌≡◌, ◌+◌, sym, ap, ◌∙◌}
use denote.Param.Weighed.{most}
use Rattle.pmg_value.specs.declared.array.Array.TheDeep.{size-Value}
use Rattle.pmg_value.proofs.Dropping.{list_depth, is_low}
use Rattle.pmg_value.proofs.+drop.Goals as goal

pub array::ItemList::drop-drop-requires : goal.array::ItemList::drop-drop-requires
array::ItemList::drop-drop-requires t c κs =
    let depth : t ≡ 1 + most size-Value c.in-Values.values.items = sym c.decreases ∙ ap list_depth c.in-Values.is in
    (((omega (arith, depth), tt), tt), search rules)

pub value::Value::drop-drop-array-inside-requires : goal.value::Value::drop-drop-array-inside-requires
value::Value::drop-drop-array-inside-requires t c =
    (omega (arith, is_low c.array.inside.tag c.array.inside.list c.array.invariant.plain, sym c.decreases ∙ ap size-Value c.in-Array.is), tt)
