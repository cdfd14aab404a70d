use Rattle.std.proofs.Common.{◌≡◌, ◌<◌, length, get_or, arith, sym, subst, ◌∙◌}
use Rattle.pmg_value.specs.declared.value.Value.{Value}
use Rattle.pmg_value.specs.Items.{items_in}
use Rattle.pmg_value.proofs.OrderLemmas.{next_items, decided_by_item, left_to_others}
use Rattle.pmg_value.proofs.parts.cmp_items.Goals as goal

pub returns-then-is_ne : goal.returns-then-is_ne
returns-then-is_ne c =
    let a = items_in c.args.a in
    let b = items_in c.args.b in
    let i = c.loop-i.i in
    let lt : i < length a = omega (arith, c.loop-i-test.true, c.len-i-end.ensures) in
    let own = subst (λ (v : Value). v ≡ get_or a i v) (sym c.value.ensures) c.get-own.ensures in
    let other = subst (λ (v : Value). v ≡ get_or b i v) (sym c.value-in-loop-i.ensures) c.get-other.ensures in
    let next = next_items a b i c.value.result.now c.value-in-loop-i.result.now _ _ _ _ _ _ _ _ c.cmp_parts-order.result lt c.requires own other
    (record { body = c.parts.ensures.body; head = c.parts.ensures.head; middle = c.parts.ensures.middle; end = c.parts.ensures.end; items = c.parts.ensures.items }) (record { body = c.parts-in-loop-i.ensures.body; head = c.parts-in-loop-i.ensures.head; middle = c.parts-in-loop-i.ensures.middle; end = c.parts-in-loop-i.ensures.end; items = c.parts-in-loop-i.ensures.items }) c.cmp_parts-order.ensures in
    decided_by_item _ _ _ (sym c.loop-i.invariant ∙ next) (sym c.is_ne.ensures ∙ c.if-is_ne.true)

pub loop-i-preserved : goal.loop-i-preserved
loop-i-preserved c =
    let a = items_in c.args.a in
    let b = items_in c.args.b in
    let i = c.loop-i.i in
    let lt : i < length a = omega (arith, c.loop-i-test.true, c.len-i-end.ensures) in
    let own = subst (λ (v : Value). v ≡ get_or a i v) (sym c.value.ensures) c.get-own.ensures in
    let other = subst (λ (v : Value). v ≡ get_or b i v) (sym c.value-in-loop-i.ensures) c.get-other.ensures in
    let next = next_items a b i c.value.result.now c.value-in-loop-i.result.now _ _ _ _ _ _ _ _ c.cmp_parts-order.result lt c.requires own other
    (record { body = c.parts.ensures.body; head = c.parts.ensures.head; middle = c.parts.ensures.middle; end = c.parts.ensures.end; items = c.parts.ensures.items }) (record { body = c.parts-in-loop-i.ensures.body; head = c.parts-in-loop-i.ensures.head; middle = c.parts-in-loop-i.ensures.middle; end = c.parts-in-loop-i.ensures.end; items = c.parts-in-loop-i.ensures.items }) c.cmp_parts-order.ensures in
    left_to_others _ _ _ (sym c.loop-i.invariant ∙ next) (sym c.is_ne.ensures ∙ c.if-is_ne.false)
