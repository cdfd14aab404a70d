use Rattle.std.proofs.Common.{rules, codes}
use Rattle.pmg_value.specs.RefusalText.{detail_text}
use Rattle.pmg_value.proofs.WrittenLemmas.{front_of_first, front_of_second, ok_then}
use Rattle.pmg_value.proofs.refusal.Refusal.write_detail.Goals as goal

pub returns-in_err-put_text-in-BadFrame-clause-text : goal.returns-in_err-put_text-in-BadFrame-clause-text
unfolding detail_text
returns-in_err-put_text-in-BadFrame-clause-text g c = rw c.in-BadFrame.is (front_of_first _ c.in_err-put_text-in-BadFrame.ensures.text.0, search rules)

pub returns-in_ok-put_text-in-BadFrame-clause-text : goal.returns-in_ok-put_text-in-BadFrame-clause-text
unfolding detail_text
returns-in_ok-put_text-in-BadFrame-clause-text g c = rw c.in-BadFrame.is (
  front_of_second (codes ": ") c.write_text.ensures.text.0 c.in_ok-put_text-in-BadFrame.ensures.text.1,
  ok_then _ _ _ _ (codes ": ") _ c.write_text.ensures.text.1 c.in_ok-put_text-in-BadFrame.ensures.text.1,
)
