use Rattle.std.proofs.Common.{rules, ◌≡◌, ◌∷◌, Some, ap, ◌∙◌}
use Rattle.std.specs.List.{flat_map}
use Rattle.pmg_value.specs.Spelling.{spelling}
use Rattle.pmg_value.proofs.WrittenLemmas.{front_of_all}
use Rattle.pmg_store.specs.Dump.{key_line}
use Rattle.pmg_store.specs.Tables.{lines_of}
use Rattle.pmg_value.proofs.WrittenParts.{more_written, front_written, all_written}
use Rattle.pmg_store.proofs.dump.put_key_lines.Goals as goal

pub loop-key-preserved-in-Continue-1 : goal.loop-key-preserved-in-Continue-1
loop-key-preserved-in-Continue-1 g c =
    let next = c.next.new.self in
    let here : c.loop-key.key-iterator ≡ (c.in-Some.key.now, Some c.in-Some-place.there) ∷ next = c.in-Some.ensures.steps ∙ ap (λ place. (c.in-Some.key.now, place) ∷ next) c.in-Some-place.is in
    more_written _ _ _ (key_line (c.in-Some.key.now, spelling c.in-Some-place.there.value)) _ _ _ (ap (λ places. flat_map key_line (lines_of places)) here) c.loop-key.invariant c.in_ok-put_key_line.ensures.text.1

pub returns-in_err-put_key_line-clause-lines : goal.returns-in_err-put_key_line-clause-lines
returns-in_err-put_key_line-clause-lines g c =
    let next = c.next.new.self in
    let here : c.loop-key.key-iterator ≡ (c.in-Some.key.now, Some c.in-Some-place.there) ∷ next = c.in-Some.ensures.steps ∙ ap (λ place. (c.in-Some.key.now, place) ∷ next) c.in-Some-place.is in
    let line = key_line (c.in-Some.key.now, spelling c.in-Some-place.there.value) in
    (front_written _ _ _ line _ _ _ (ap (λ places. flat_map key_line (lines_of places)) here) c.loop-key.invariant c.in_err-put_key_line.ensures.text.0, search rules)

pub returns-clause-lines : goal.returns-clause-lines
returns-clause-lines g c =
    let all = all_written _ _ _ _ (ap (λ places. flat_map key_line (lines_of places)) c.in-None.ensures.steps.0) c.loop-key.invariant in
    (front_of_all _ _ _ all, all)
