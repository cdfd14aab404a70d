use Rattle.std.proofs.Common.{ℕ, ◌≡◌, ◌*◌, ◌+◌, length, map, ◌<◌, Ok, Err, sym, subst, ◌∙◌, ap}
use Rattle.std.proofs.lemmas.Bool.{cond-true, cond-false}
use Rattle.pmg_value.specs.Items.{number_value, number_width}
use Rattle.pmg_value.specs.Spelling.{elements, makes_array, HoldsArray}
use Rattle.pmg_value.specs.declared.refusal.Refusal.TheVariants as refusals
use Rattle.pmg_value.proofs.NumberLemmas.{numbers_hold, numbers_make, numbers_fail}
use Rattle.pmg_value.proofs.array.Array.of_numbers.Goals as goal

count : (c : goal.In-Some) → c.len.result ≡ length c.args.numbers.items
count c = c.len.ensures ∙ c.args.numbers.ok.0

holds : (c : goal.In-Some) → HoldsArray c.args.tag c.in-Some.size (map (number_value c.args.tag) c.args.numbers.items)
holds c =
    numbers_hold c.args.tag c.requires c.in-Some.size c.args.numbers.items
    (c.in-Some.ensures.some.0 ∙ ap (λ (n : ℕ). 6 + n * number_width c.args.tag) (count c)) c.in-Some.ensures.some.1

pub invariant_of-result : goal.invariant_of-result
invariant_of-result c = holds c

pub returns-in-Some : goal.returns-in-Some
returns-in-Some c =
    let tag = c.args.tag in
    let items = map (number_value tag) c.args.numbers.items in
    sym (cond-true (makes_array tag items) (Ok (elements tag items)) (Err refusals.BadParam) (numbers_make tag c.requires c.in-Some.size c.args.numbers.items (holds c)))

pub returns-in-None : goal.returns-in-None
returns-in-None c =
    let tag = c.args.tag in
    let items = map (number_value tag) c.args.numbers.items in
    sym (cond-false (makes_array tag items) (Ok (elements tag items)) (Err refusals.BadParam) (numbers_fail tag c.requires c.args.numbers.items (subst (λ n. 1048576 < 6 + n * number_width tag) (c.len.ensures ∙ c.args.numbers.ok.0) c.in-None.ensures.none)))
