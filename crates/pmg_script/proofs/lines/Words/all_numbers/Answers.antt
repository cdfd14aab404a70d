use Rattle.std.proofs.Common.{sym, ap, ◌∙◌}
use Rattle.std.proofs.lemmas.Result.{err_from_is_err_and}
use Rattle.pmg_script.specs.Lines.{read_as}
use Rattle.pmg_script.specs.Fields.{number_in, all_numbers}
use Rattle.pmg_script.proofs.LineLemmas.{after, after_all, after_more, after_fault, less_left, numbers_stepwise, as_shrinks}
use Rattle.pmg_script.proofs.lines.Words.all_numbers.Goals as goal

pub returns-in_err-number : goal.returns-in_err-number
returns-in_err-number c =
    let err = err_from_is_err_and c.from_residual.result c.from_residual.ensures.1 in
    let some = sym c.is_at_end.ensures ∙ c.loop-self-test.true in
    rw (err.1, err.2) (after_fault (read_as number_in) all_numbers numbers_stepwise c.in_err-number.field-0.0 c.loop-self.numbers.items c.loop-self.self (all_numbers c.args.self.now) some c.in_err-number.ensures c.loop-self.invariant)

pub loop-self-smaller : goal.loop-self-smaller
loop-self-smaller c =
    less_left (read_as number_in) all_numbers (as_shrinks number_in) c.loop-self.self c.in_ok-number.number c.number.new.self (sym c.is_at_end.ensures ∙ c.loop-self-test.true) c.in_ok-number.ensures

pub loop-self-preserved : goal.loop-self-preserved
loop-self-preserved c =
    let some = sym c.is_at_end.ensures ∙ c.loop-self-test.true in
    ap (λ items. after (read_as number_in) all_numbers items c.number.new.self) (c.in_ok-push.ensures.items)
    ∙ after_more (read_as number_in) all_numbers numbers_stepwise c.loop-self.numbers.items c.loop-self.self c.in_ok-number.number c.number.new.self some c.in_ok-number.ensures ∙ c.loop-self.invariant

pub returns : goal.returns
returns c =
    sym c.loop-self.invariant ∙ after_all (read_as number_in) all_numbers numbers_stepwise c.loop-self.numbers.items c.loop-self.self (sym c.is_at_end.ensures ∙ c.loop-self-test.false)
