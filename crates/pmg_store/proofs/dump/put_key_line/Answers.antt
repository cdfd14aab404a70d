use Rattle.std.proofs.Common.{rules, codes, ◌++◌, refl, ap}
use Rattle.pmg_value.proofs.WrittenLemmas.{first_part, two_parts}
use Rattle.pmg_store.proofs.dump.put_key_line.Goals as goal

pub returns-in_err-put_value-clause-text : goal.returns-in_err-put_value-clause-text
returns-in_err-put_value-clause-text g c = first_part _ _ _ _ _ (codes " " ++ (c.args.key.now ++ codes "\n")) refl c.in_err-put_value.ensures.text.0 (search rules)

pub returns-clause-text : goal.returns-clause-text
returns-clause-text g c =
    two_parts _ _ _ _ _ _ _ _ refl (ap (λ key. codes " " ++ (key ++ codes "\n")) c.as_bytes.ensures.value) c.put_texts.ensures.text c.in_ok-put_value.ensures.text.1
