use Rattle.std.proofs.Common.{◌≡◌, ◌<◌, length, get_or, arith, sym, subst}
use Rattle.pmg_value.specs.declared.value.Value.{Value}
use Rattle.pmg_value.specs.Items.{items_in}
use Rattle.pmg_wire.proofs.Writing.{item_bytes, item_fits, one_written}
use Rattle.pmg_wire.proofs.put.put_items.Goals as goal

pub put_parts-requires : goal.put_parts-requires
put_parts-requires c =
    let parts = c.parts.result in
    let items = items_in c.args.items in
    let lt : c.loop-i.i < length items = omega (arith, c.loop-i-test.true, c.len-i-end.ensures) in
    let at = subst (λ (v : Value). v ≡ get_or items c.loop-i.i v) (sym c.value.ensures) c.get-item.ensures in
    let own = item_bytes items c.loop-i.i c.value.result.now parts.head.items parts.middle.now parts.end.items (items_in parts.items) c.requires.plain lt at c.parts.ensures.body c.parts.ensures.items.count in
    omega (arith, item_fits items c.loop-i.i c.loop-i.out.spare _ own c.loop-i.invariant.fits)

pub loop-i-preserved : goal.loop-i-preserved
loop-i-preserved c =
    let parts = c.parts.result in
    let items = items_in c.args.items in
    let lt : c.loop-i.i < length items = omega (arith, c.loop-i-test.true, c.len-i-end.ensures) in
    let at = subst (λ (v : Value). v ≡ get_or items c.loop-i.i v) (sym c.value.ensures) c.get-item.ensures in
    let own = item_bytes items c.loop-i.i c.value.result.now parts.head.items parts.middle.now parts.end.items (items_in parts.items) c.requires.plain lt at c.parts.ensures.body c.parts.ensures.items.count in
    one_written _ _ _ _ _ _ _ _ own c.put_parts.ensures.items c.put_parts.ensures.spare c.loop-i.invariant
