use Rattle.std.proofs.Common.{rules, arith, codes, false, ◌≡◌, ◌++◌, ◌<◌, ◌≤◌, length, get_or, refl, sym, ap, subst, append_assoc, ◌∙◌}
use Rattle.std.specs.List.{join_by}
use Rattle.std.specs.Io.KnownBytes.{Appends}
use Rattle.std.proofs.lemmas.List.{length-map}
use Rattle.pmg_value.specs.declared.value.Value.{Value}
use Rattle.pmg_value.specs.Elements.{Elements}
use Rattle.pmg_value.specs.Items.{item_value, items_in}
use Rattle.pmg_value.specs.Plain.{Plain, kind_name, plain_text}
use Rattle.pmg_value.specs.Spelling.{form, plain_of, plains_of}
use Rattle.pmg_value.specs.Text.{form_text}
use Rattle.pmg_value.specs.Written.{AppendsFront, Writes}
use Rattle.pmg_value.proofs.WrittenLemmas.{first_part, two_parts, front_of_all}
use Rattle.pmg_value.proofs.FlatLemmas.{flat_front, flat_more, flat_all}
use Rattle.pmg_value.proofs.TextLemmas.{text_is, first_plain, item_at}
use Rattle.pmg_value.proofs.value_text.+put_held.Goals as goal

pub put_array-returns-in_err-put_text_after-clause-text : goal.put_array-returns-in_err-put_text_after-clause-text
put_array-returns-in_err-put_text_after-clause-text g t c =
    rw (← append_assoc c.args.before.now (kind_name c.args.array.now.tag) (codes "[" ++ (join_by plain_text (codes ",") c.args.array.now.plains ++ codes "]"))) (first_part _ _ _ _ _ _ (ap (λ name. c.args.before.now ++ name) (c.kind_name.ensures ∙ ap kind_name c.tag.ensures)) c.in_err-put_text_after.ensures.text.0 (search rules))

pub put_array-returns-in_err-put_text-clause-text : goal.put_array-returns-in_err-put_text-clause-text
put_array-returns-in_err-put_text-clause-text g t c =
    rw (← append_assoc c.args.before.now (kind_name c.args.array.now.tag) (codes "[" ++ (join_by plain_text (codes ",") c.args.array.now.plains ++ codes "]"))) (two_parts _ _ _ _ _ _ _ _ (ap (λ name. c.args.before.now ++ name) (c.kind_name.ensures ∙ ap kind_name c.tag.ensures)) refl
    (first_part _ _ _ _ _ _ refl c.in_err-put_text.ensures.text.0 (search rules)) c.in_ok-put_text_after.ensures.text.1)

pub put_array-returns-in_err-put_items-clause-text : goal.put_array-returns-in_err-put_items-clause-text
put_array-returns-in_err-put_items-clause-text g t c =
    rw (← append_assoc c.args.before.now (kind_name c.args.array.now.tag) (codes "[" ++ (join_by plain_text (codes ",") c.args.array.now.plains ++ codes "]"))) (two_parts _ _ _ _ _ _ _ _ (ap (λ name. c.args.before.now ++ name) (c.kind_name.ensures ∙ ap kind_name c.tag.ensures)) refl
    (two_parts _ _ _ _ _ _ _ _ refl refl (first_part _ _ _ _ _ _ (ap (λ (e : Elements). join_by plain_text (codes ",") e.plains) c.items-items.ensures.items) c.in_err-put_items.ensures.text.0 (search rules)) c.in_ok-put_text.ensures.text.1) c.in_ok-put_text_after.ensures.text.1)

pub put_array-returns-clause-text : goal.put_array-returns-clause-text
put_array-returns-clause-text g t c =
    rw (← append_assoc c.args.before.now (kind_name c.args.array.now.tag) (codes "[" ++ (join_by plain_text (codes ",") c.args.array.now.plains ++ codes "]"))) (two_parts _ _ _ _ _ _ _ _ (ap (λ name. c.args.before.now ++ name) (c.kind_name.ensures ∙ ap kind_name c.tag.ensures)) refl
    (two_parts _ _ _ _ _ _ _ _ refl refl (two_parts _ _ _ _ _ _ _ _ (ap (λ (e : Elements). join_by plain_text (codes ",") e.plains) c.items-items.ensures.items) refl c.put_text-2.ensures.text c.in_ok-put_items.ensures.text.1) c.in_ok-put_text.ensures.text.1) c.in_ok-put_text_after.ensures.text.1)

pub put_items-returns-in_err-put_held-clause-text : goal.put_items-returns-in_err-put_held-clause-text
put_items-returns-in_err-put_held-clause-text g t c =
    let plain = first_plain _ _ _ c.in-Some.ensures.some c.requires in
    rw (c.in-Some.ensures.some) (first_part _ _ _ _ _ _ (ap (λ (v : Value). form_text (form v)) c.value.ensures ∙ text_is (form (item_value c.in-Some.first)) plain) c.in_err-put_held.ensures.text.0 (search rules))

pub put_items-returns-clause-text : goal.put_items-returns-clause-text
put_items-returns-clause-text g t c =
    let plain = first_plain _ _ _ c.in-Some.ensures.some c.requires in
    rw (c.in-Some.ensures.some) (two_parts _ _ _ _ _ _ _ _ (ap (λ (v : Value). form_text (form v)) c.value.ensures ∙ text_is (form (item_value c.in-Some.first)) plain) refl c.put_others.ensures.text c.in_ok-put_held.ensures.text.1)

pub put_next-returns-clause-text : goal.put_next-returns-clause-text
put_next-returns-clause-text g t c = subst (Writes _ _ _) (ap (λ held. codes "," ++ held) (text_is (form c.args.item.now) c.requires)) c.put_held.ensures.text

pub put_others-returns-in_err-put_next-clause-text : goal.put_others-returns-in_err-put_next-clause-text
put_others-returns-in_err-put_next-clause-text g t c =
    let items = items_in c.args.items in
    let lt : c.loop-i.i < length items = omega (arith, c.loop-i-test.true, c.len-i-end.ensures) in
    let item = item_at items c.loop-i.i c.value.result.now lt (subst (λ (v : Value). v ≡ get_or items c.loop-i.i v) (sym c.value.ensures) c.get-item.ensures) in
    let front = subst (AppendsFront _ _) (ap (λ (p : Plain). codes "," ++ plain_text p) item) c.in_err-put_next.ensures.text.0 in
    let within : c.loop-i.i < length (plains_of items) = omega (arith, lt, length-map items (λ v. plain_of (form v))) in
    (flat_front (λ p. codes "," ++ plain_text p) _ _ _ (plains_of items) c.loop-i.i (Plain.bool false) within front c.loop-i.invariant, search rules)

pub put_others-loop-i-preserved : goal.put_others-loop-i-preserved
put_others-loop-i-preserved g t c =
    let items = items_in c.args.items in
    let lt : c.loop-i.i < length items = omega (arith, c.loop-i-test.true, c.len-i-end.ensures) in
    let item = item_at items c.loop-i.i c.value.result.now lt (subst (λ (v : Value). v ≡ get_or items c.loop-i.i v) (sym c.value.ensures) c.get-item.ensures) in
    let next = subst (Appends _ _) (ap (λ (p : Plain). codes "," ++ plain_text p) item) c.in_ok-put_next.ensures.text.1 in
    let within : c.loop-i.i < length (plains_of items) = omega (arith, lt, length-map items (λ v. plain_of (form v))) in
    flat_more (λ p. codes "," ++ plain_text p) _ _ _ (plains_of items) c.loop-i.i (Plain.bool false) within next c.loop-i.invariant

pub put_others-returns-clause-text : goal.put_others-returns-clause-text
put_others-returns-clause-text g t c =
    let items = items_in c.args.items in
    let past : length (plains_of items) ≤ c.loop-i.i = omega (arith, c.loop-i-test.false, c.len-i-end.ensures, length-map items (λ v. plain_of (form v))) in
    let all = flat_all (λ p. codes "," ++ plain_text p) _ _ (plains_of items) c.loop-i.i past c.loop-i.invariant in
    (front_of_all _ _ _ all, all)
