use Rattle.std.proofs.Common.{rules, codes, decimal, ◌++◌, refl, ap, append_assoc, ◌∙◌}
use Rattle.pmg_value.proofs.WrittenLemmas.{first_part, two_parts}
use Rattle.pmg_store.proofs.dump.put_proc_line.Goals as goal

pub returns-in_err-put_texts-clause-text : goal.returns-in_err-put_texts-clause-text
returns-in_err-put_texts-clause-text g c =
    let name = ap (λ name. codes "proc " ++ (name ++ codes " ")) c.as_bytes.ensures.value in
    rw (← append_assoc c.args.proc.now.nspace (codes " ") (decimal c.args.proc.now.rank ++ (codes " level " ++ (decimal c.args.level ++ codes "\n"))))
    (first_part _ _ _ _ _ (decimal c.args.proc.now.rank ++ (codes " level " ++ (decimal c.args.level ++ codes "\n"))) name c.in_err-put_texts.ensures.text.0 (search rules))

pub returns-in_err-put_number-clause-text : goal.returns-in_err-put_number-clause-text
returns-in_err-put_number-clause-text g c =
    let name = ap (λ name. codes "proc " ++ (name ++ codes " ")) c.as_bytes.ensures.value in
    rw (← append_assoc c.args.proc.now.nspace (codes " ") (decimal c.args.proc.now.rank ++ (codes " level " ++ (decimal c.args.level ++ codes "\n"))))
    (two_parts _ _ _ _ _ _ _ _ name refl
    (first_part _ _ _ _ _ (codes " level " ++ (decimal c.args.level ++ codes "\n")) (ap decimal (c.from.ensures ∙ c.number.ensures)) c.in_err-put_number.ensures.text.0 (search rules)) c.in_ok-put_texts.ensures.text.1)

pub returns-clause-text : goal.returns-clause-text
returns-clause-text g c =
    let name = ap (λ name. codes "proc " ++ (name ++ codes " ")) c.as_bytes.ensures.value in
    rw (← append_assoc c.args.proc.now.nspace (codes " ") (decimal c.args.proc.now.rank ++ (codes " level " ++ (decimal c.args.level ++ codes "\n"))))
    (two_parts _ _ _ _ _ _ _ _ name refl
    (two_parts _ _ _ _ _ _ _ _ (ap decimal (c.from.ensures ∙ c.number.ensures)) refl c.put_number_between.ensures.text c.in_ok-put_number.ensures.text.1) c.in_ok-put_texts.ensures.text.1)
