use Rattle.std.proofs.Common.{◌≡◌}
use Rattle.pmg_script.specs.Lines.{read_as}
use Rattle.pmg_script.specs.Fields.{number_in, all_numbers}
use Rattle.pmg_script.proofs.LineLemmas.{left_len, after}
use Rattle.pmg_script.proofs.lines.Words.all_numbers.Given as goal

-- what was read so far, and what is left
abbrev pub invariant-loop-self : goal.invariant-loop-self
invariant-loop-self l = after (read_as number_in) all_numbers l.numbers.items l.self ≡ all_numbers l.fn.self

abbrev pub decreases-loop-self : goal.decreases-loop-self
decreases-loop-self l = left_len l.self
