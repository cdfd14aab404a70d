use Rattle.std.proofs.Common.{◌≡◌, ◌<◌, ◌∙◌, Ok, Err, IsTrue, map, refl, sym, ap, arith, nat_lt}
use Rattle.std.proofs.lemmas.Bool.{and_from, lt-ltb, ltb-true, cond-true}
use Rattle.pmg_value.specs.declared.refusal.Refusal.TheVariants as refusals
use Rattle.pmg_value.specs.declared.value.Value.TheVariants as values
use Rattle.pmg_value.specs.Items.{number_value, number_width}
use Rattle.pmg_value.specs.Plain.{is_plain_tag}
use Rattle.pmg_value.specs.Spelling.{Form, elements, makes_array}
use Rattle.pmg_value.proofs.NumberLemmas.{number_tag, numbers_plain}
use Rattle.pmg_wire.specs.Fields.{made, read_array}
use Rattle.pmg_wire.proofs.ArrayLaws.{fewer_left, makes_one}
use Rattle.pmg_wire.proofs.values.array_of.Goals as goal

pub elements_of-requires : goal.elements_of-requires
elements_of-requires c = fewer_left _ _ _ _ _ c.in_ok-tag.ensures.read c.in_ok-count.ensures.read c.requires

pub numbers_of-requires-clause-short : goal.numbers_of-requires-clause-short
numbers_of-requires-clause-short c = fewer_left _ _ _ _ _ c.in_ok-tag.ensures.read c.in_ok-count.ensures.read c.requires

pub returns-then-is_number_kind : goal.returns-then-is_number_kind
unfolding read_array
returns-then-is_number_kind c =
    let at = c.args.at.now in
    let tag = c.in_ok-tag.tag in
    let some : 0 < number_width tag = ltb-true 0 (number_width tag) (sym c.is_number_kind.ensures ∙ c.if-is_number_kind.true) in
    let items = map (number_value tag) c.in_ok-numbers.numbers.items in
    let tag_is : IsTrue (is_plain_tag tag) = number_tag tag some in
    let read : read_array at ≡ Ok (elements tag items, c.numbers_of.new.at) = rw (c.in_ok-tag.ensures.read, tag_is, c.in_ok-count.ensures.read, c.in_ok-numbers.ensures) refl in
    let makes = makes_one at c.numbers_of.new.at tag items c.offset-start.ensures.bytes c.requires read (numbers_plain tag some c.in_ok-numbers.numbers.items) in
    let one : c.numbers.result ≡ Ok (values.Array (elements tag items)) = c.numbers.ensures ∙ cond-true (makes_array tag items) (Ok (values.Array (elements tag items))) (Err refusals.BadParam) makes in
    rw one (ap (made Form.array) read)

pub returns : goal.returns
unfolding read_array
returns c =
    let at = c.args.at.now in
    let tag = c.in_ok-tag.tag in
    let items = c.in_ok-items.items.items in
    let tag_is : IsTrue (is_plain_tag tag) = and_from (nat_lt 0 tag) (nat_lt tag 19) (lt-ltb 0 tag (omega arith)) (lt-ltb tag 19 (omega arith)) in
    let read : read_array at ≡ Ok (elements tag items, c.elements_of.new.at) = rw (c.in_ok-tag.ensures.read, tag_is, c.in_ok-count.ensures.read, c.in_ok-items.ensures.read) refl in
    let makes = makes_one at c.elements_of.new.at tag items c.offset-start.ensures.bytes c.requires read c.in_ok-items.ensures.plain in
    let one : c.array.result ≡ Ok (values.Array (elements tag items)) = c.array.ensures ∙ cond-true (makes_array tag items) (Ok (values.Array (elements tag items))) (Err refusals.BadParam) makes in
    rw one (ap (made Form.array) read)
