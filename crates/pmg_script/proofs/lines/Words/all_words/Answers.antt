use Rattle.std.proofs.Common.{sym, ap, ◌∙◌, ℕ, List, [], ◌∷◌, Bor}
use Rattle.std.proofs.lemmas.List.{map-append}
use Rattle.std.proofs.lemmas.Result.{err_from_is_err_and}
use Rattle.pmg_script.specs.Lines.{read_word, read_words}
use Rattle.pmg_script.specs.Scripts.{texts}
use Rattle.pmg_script.proofs.LineLemmas.{after, after_all, after_more, after_fault, less_left, words_stepwise, word_shrinks}
use Rattle.pmg_script.proofs.lines.Words.all_words.Goals as goal

pub returns-in_err-word : goal.returns-in_err-word
returns-in_err-word c =
    let err = err_from_is_err_and c.from_residual.result c.from_residual.ensures.1 in
    let some = sym c.is_at_end.ensures ∙ c.loop-self-test.true in
    rw (err.1, err.2) (after_fault read_word read_words words_stepwise c.in_err-word.field-0.0 (texts c.loop-self.words.items) c.loop-self.self (read_words c.args.self.now) some c.in_err-word.ensures c.loop-self.invariant)

pub loop-self-smaller : goal.loop-self-smaller
loop-self-smaller c =
    less_left read_word read_words word_shrinks c.loop-self.self c.in_ok-word.word.now c.word.new.self (sym c.is_at_end.ensures ∙ c.loop-self-test.true) c.in_ok-word.ensures

pub loop-self-preserved : goal.loop-self-preserved
loop-self-preserved c =
    let some = sym c.is_at_end.ensures ∙ c.loop-self-test.true in
    ap (λ items. after read_word read_words items c.word.new.self) (ap texts c.in_ok-push.ensures.items ∙ map-append (λ (word : Bor (List ℕ)). word.now) c.loop-self.words.items (c.in_ok-word.word ∷ []))
    ∙ after_more read_word read_words words_stepwise (texts c.loop-self.words.items) c.loop-self.self c.in_ok-word.word.now c.word.new.self some c.in_ok-word.ensures ∙ c.loop-self.invariant

pub returns : goal.returns
returns c =
    sym c.loop-self.invariant ∙ after_all read_word read_words words_stepwise (texts c.loop-self.words.items) c.loop-self.self (sym c.is_at_end.ensures ∙ c.loop-self-test.false)
