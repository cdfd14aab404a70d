use Rattle.std.proofs.Common.{◌≡◌}
use Rattle.pmg_script.specs.Lines.{read_word, read_words}
use Rattle.pmg_script.specs.Scripts.{texts}
use Rattle.pmg_script.proofs.LineLemmas.{left_len, after}
use Rattle.pmg_script.proofs.lines.Words.all_words.Given as goal

-- what was read so far, and what is left
abbrev pub invariant-loop-self : goal.invariant-loop-self
invariant-loop-self l = after read_word read_words (texts l.words.items) l.self ≡ read_words l.fn.self

abbrev pub decreases-loop-self : goal.decreases-loop-self
decreases-loop-self l = left_len l.self
