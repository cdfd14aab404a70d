use Rattle.std.proofs.Common.{rules, ◌+◌, ◌∷◌, drop, sym, ap, ◌∙◌}
use Rattle.std.specs.List.{flat_map}
use Rattle.std.proofs.lemmas.List.{at_drop_more, at_drop_all}
use Rattle.pmg_value.specs.Spelling.{spelling}
use Rattle.pmg_value.proofs.WrittenLemmas.{front_of_all}
use Rattle.pmg_value.proofs.WrittenParts.{more_written, front_written, all_written}
use Rattle.pmg_store.specs.Dump.{key_line}
use Rattle.pmg_store.specs.Tables.{rows_told}
use Rattle.pmg_store.proofs.dump.put_entry_lines.Goals as goal

pub returns-in_err-put_key_line-clause-lines : goal.returns-in_err-put_key_line-clause-lines
returns-in_err-put_key_line-clause-lines g c =
    let es = c.args.entries.now in
    let i = c.loop-entry.entry-index in
    let r = c.entry-item.result in
    let here = at_drop_more (λ es. flat_map key_line (rows_told es)) es i r c.loop-entry-test.true ∙ ap (λ x. flat_map key_line (rows_told (x ∷ drop (i + 1) es))) (sym c.entry-item.is) in
    (front_written _ _ _ (key_line (r.key, spelling r.value)) _ _ _ here c.loop-entry.invariant c.in_err-put_key_line.ensures.text.0, search rules)

pub loop-entry-preserved : goal.loop-entry-preserved
loop-entry-preserved g c =
    let es = c.args.entries.now in
    let i = c.loop-entry.entry-index in
    let r = c.entry-item.result in
    let here = at_drop_more (λ es. flat_map key_line (rows_told es)) es i r c.loop-entry-test.true ∙ ap (λ x. flat_map key_line (rows_told (x ∷ drop (i + 1) es))) (sym c.entry-item.is) in
    more_written _ _ _ (key_line (r.key, spelling r.value)) _ _ _ here c.loop-entry.invariant c.in_ok-put_key_line.ensures.text.1

pub returns-clause-lines : goal.returns-clause-lines
returns-clause-lines g c =
    let all = all_written _ _ _ _ (at_drop_all (λ es. flat_map key_line (rows_told es)) c.args.entries.now c.loop-entry.entry-index c.loop-entry-test.false) c.loop-entry.invariant in
    (front_of_all _ _ _ all, all)
