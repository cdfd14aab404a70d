use Rattle.std.proofs.Common.{sym, ◌∙◌}
use Rattle.pmg_value.specs.Spelling.{tag_of}
use Rattle.pmg_value.proofs.OrderLemmas.{InParts, decided, left_to_items, items_alike, tags_agree}
use Rattle.pmg_value.proofs.value.Value.cmp.Goals as goal

pub returns-then-is_ne-2 : goal.returns-then-is_ne-2
returns-then-is_ne-2 c =
    let own : InParts c.args.self.now _ _ _ _ = record { body = c.parts-own.ensures.body; head = c.parts-own.ensures.head; middle = c.parts-own.ensures.middle; end = c.parts-own.ensures.end; items = c.parts-own.ensures.items } in
    let others : InParts c.args.other.now _ _ _ _ = record { body = c.parts-others.ensures.body; head = c.parts-others.ensures.head; middle = c.parts-others.ensures.middle; end = c.parts-others.ensures.end; items = c.parts-others.ensures.items } in
    let tags = tags_agree c.tag.result c.tag-2.result (tag_of c.args.self.now) (tag_of c.args.other.now) c.cmp-order.result c.tag.ensures c.tag-2.ensures c.cmp-order.ensures (sym c.is_ne.ensures ∙ c.if-is_ne.false) in
    decided _ _ _ _ _ _ _ _ _ _ _ own others tags c.cmp_parts-order.ensures (sym c.is_ne-2.ensures ∙ c.if-is_ne-2.true)

pub cmp_items-requires : goal.cmp_items-requires
cmp_items-requires c =
    let own : InParts c.args.self.now _ _ _ _ = record { body = c.parts-own.ensures.body; head = c.parts-own.ensures.head; middle = c.parts-own.ensures.middle; end = c.parts-own.ensures.end; items = c.parts-own.ensures.items } in
    let others : InParts c.args.other.now _ _ _ _ = record { body = c.parts-others.ensures.body; head = c.parts-others.ensures.head; middle = c.parts-others.ensures.middle; end = c.parts-others.ensures.end; items = c.parts-others.ensures.items } in
    let tags = tags_agree c.tag.result c.tag-2.result (tag_of c.args.self.now) (tag_of c.args.other.now) c.cmp-order.result c.tag.ensures c.tag-2.ensures c.cmp-order.ensures (sym c.is_ne.ensures ∙ c.if-is_ne.false) in
    items_alike _ _ _ _ _ _ _ _ _ _ _ own others tags c.cmp_parts-order.ensures (sym c.is_ne-2.ensures ∙ c.if-is_ne-2.false)

pub returns : goal.returns
returns c =
    let own : InParts c.args.self.now _ _ _ _ = record { body = c.parts-own.ensures.body; head = c.parts-own.ensures.head; middle = c.parts-own.ensures.middle; end = c.parts-own.ensures.end; items = c.parts-own.ensures.items } in
    let others : InParts c.args.other.now _ _ _ _ = record { body = c.parts-others.ensures.body; head = c.parts-others.ensures.head; middle = c.parts-others.ensures.middle; end = c.parts-others.ensures.end; items = c.parts-others.ensures.items } in
    let tags = tags_agree c.tag.result c.tag-2.result (tag_of c.args.self.now) (tag_of c.args.other.now) c.cmp-order.result c.tag.ensures c.tag-2.ensures c.cmp-order.ensures (sym c.is_ne.ensures ∙ c.if-is_ne.false) in
    left_to_items _ _ _ _ _ _ _ _ _ _ _ _ own others tags c.cmp_parts-order.ensures (sym c.is_ne-2.ensures ∙ c.if-is_ne-2.false) c.cmp_items.ensures
