use Rattle.std.proofs.Common.{arith, sym, ◌∙◌}
use Rattle.pmg_value.specs.Spelling.{form}
use Rattle.pmg_value.proofs.ArrayLemmas.{item_is, another_kind, too_long, tag_between}
use Rattle.pmg_value.proofs.array.size_of.Goals as goal
use Rattle.pmg_value.proofs.array.size_of.Goals.{then-tag-via-then-tag, then-tag-via-else-tag+then-more-size}

pub returns-then-tag-clause-none : goal.returns-then-tag-clause-none
returns-then-tag-clause-none c = elim c.then-tag.branch [
  | then-tag-via-then-tag w ↦
      another_kind c.args.tag c.tag.result c.loop-item.item-index c.args.items.now c.item-item.result (omega (arith, c.loop-item-test.true)) c.item-item.is c.tag.ensures w.if-tag.true
  | then-tag-via-else-tag+then-more-size w ↦
      let between = tag_between c.args.tag (omega (arith, c.if-tag-eq0.false)) (omega (arith, c.if-tag-gt-MAX_ELEMENT_TAG.false)) in
      let item = item_is c.args.tag (form c.item-item.result) between (sym c.tag.ensures ∙ w.if-tag.false) c.body_size-more.ensures.is in
      too_long c.args.tag c.loop-item.size c.body_size-more.result c.loop-item.item-index c.args.items.now c.item-item.result (omega (arith, c.loop-item-test.true)) c.item-item.is
      c.loop-item.invariant item c.body_size-more.ensures.value w.if-more-size.true
]
