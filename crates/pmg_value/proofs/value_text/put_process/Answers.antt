use Rattle.std.proofs.Common.{rules, codes, ◌++◌, ap, append_assoc, ◌∙◌, decimal}
use Rattle.pmg_value.specs.Hex.{hex_text}
use Rattle.pmg_value.proofs.WrittenLemmas.{first_part, two_parts}
use Rattle.pmg_value.proofs.value_text.put_process.Goals as goal

pub returns-in_err-put_hex_after-clause-text : goal.returns-in_err-put_hex_after-clause-text
returns-in_err-put_hex_after-clause-text g c =
    let p = c.args.process.now in
    rw (← append_assoc c.args.before.now (hex_text p.nspace) (codes "/" ++ decimal p.rank))
    (first_part _ _ _ _ _ _ (ap (λ name. c.args.before.now ++ hex_text name) c.as_bytes-name.ensures.value) c.in_err-put_hex_after.ensures.text.0 (search rules))

pub returns-clause-text : goal.returns-clause-text
returns-clause-text g c =
    let p = c.args.process.now in
    rw (← append_assoc c.args.before.now (hex_text p.nspace) (codes "/" ++ decimal p.rank))
    (two_parts _ _ _ _ _ _ _ _ (ap (λ name. c.args.before.now ++ hex_text name) c.as_bytes-name.ensures.value)
    (ap (λ rank. codes "/" ++ decimal rank) (c.from.ensures ∙ c.number-rank.ensures)) c.put_number_after.ensures.text c.in_ok-put_hex_after.ensures.text.1)
