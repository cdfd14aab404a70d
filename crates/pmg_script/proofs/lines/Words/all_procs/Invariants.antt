use Rattle.std.proofs.Common.{◌≡◌}
use Rattle.pmg_script.specs.Fields.{read_proc_words, read_proc_list}
use Rattle.pmg_script.proofs.LineLemmas.{left_len, after}
use Rattle.pmg_script.proofs.lines.Words.all_procs.Given as goal

-- what was read so far, and what is left
abbrev pub invariant-loop-self : goal.invariant-loop-self
invariant-loop-self l = after read_proc_words read_proc_list l.procs.items l.self ≡ read_proc_list l.fn.self

abbrev pub decreases-loop-self : goal.decreases-loop-self
decreases-loop-self l = left_len l.self
