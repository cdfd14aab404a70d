use Rattle.std.proofs.Common.{◌≡◌, ◌-◌}
use Rattle.pmg_script.specs.Fields.{read_procs}
use Rattle.pmg_script.proofs.LineLemmas.{procs_after}
use Rattle.pmg_script.proofs.lines.Words.procs.Given as goal

-- what was read so far, and so many more
abbrev pub invariant-loop : goal.invariant-loop
invariant-loop l = procs_after l.procs.items (l.count - l.counter) l.self ≡ read_procs l.count l.fn.self
