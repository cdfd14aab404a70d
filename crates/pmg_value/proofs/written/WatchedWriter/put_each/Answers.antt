use Rattle.std.proofs.Common.{rules, ◌++◌, refl}
use Rattle.pmg_value.proofs.WrittenLemmas.{first_part, two_parts}
use Rattle.pmg_value.proofs.written.WatchedWriter.put_each.Goals as goal

pub returns-in_err-put_text-clause-text : goal.returns-in_err-put_text-clause-text
returns-in_err-put_text-clause-text g c = first_part _ _ _ _ _ (c.args.second.now ++ c.args.third.now) refl c.in_err-put_text.ensures.text.0 (search rules)

pub returns-in_err-put_text-2-clause-text : goal.returns-in_err-put_text-2-clause-text
returns-in_err-put_text-2-clause-text g c =
    two_parts _ _ _ _ _ _ _ _ refl refl (first_part _ _ _ _ _ c.args.third.now refl c.in_err-put_text-2.ensures.text.0 (search rules)) c.in_ok-put_text.ensures.text.1

pub returns-clause-text : goal.returns-clause-text
returns-clause-text g c = two_parts _ _ _ _ _ _ _ _ refl refl (two_parts _ _ _ _ _ _ _ _ refl refl c.put_text-3.ensures.text c.in_ok-put_text-2.ensures.text.1) c.in_ok-put_text.ensures.text.1
