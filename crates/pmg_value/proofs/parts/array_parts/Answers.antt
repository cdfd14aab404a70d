use Rattle.std.proofs.Common.{arith, subst, sym, refl}
use Rattle.pmg_value.specs.Elements.{IsArray}
use Rattle.pmg_value.specs.Items.{items_in}
use Rattle.pmg_value.proofs.ArrayLemmas.{few_items, items_behind}
use Rattle.pmg_value.proofs.parts.array_parts.Goals as goal

pub overflow_cast-len : goal.overflow_cast-len
overflow_cast-len c =
    let few = few_items _ (items_in c.items-items.result) (subst IsArray (sym c.items-items.ensures.items) c.items-items.ensures.is) in
    record { fits = omega (arith, few, c.len.ensures) }

pub returns-clause-items : goal.returns-clause-items
returns-clause-items c =
    items_behind _ _ _ _ c.items-items.ensures.items c.items-items.ensures.plain c.items-items.ensures.is (rw (c.short_bytes.ensures, c.tag.ensures, c.to_be_bytes-count.ensures, c.len.ensures) refl)
