use Rattle.std.proofs.Common.{rules}
use Rattle.pmg_value.specs.RefusalText.{refusal_text}
use Rattle.pmg_value.proofs.WrittenLemmas.{front_of_first, front_of_second}
use Rattle.pmg_value.proofs.refusal.Refusal.write_text.Goals as goal

pub returns-in_err-put_text-clause-text : goal.returns-in_err-put_text-clause-text
unfolding refusal_text
returns-in_err-put_text-clause-text g c = (
  rw (← c.number.ensures) (front_of_first _ (front_of_first _ (front_of_second _ c.in_err-put_text.ensures.text.0 c.in_ok-put_number.ensures.text.1))),
  search rules,
)
