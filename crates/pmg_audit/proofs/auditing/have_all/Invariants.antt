use Rattle.std.proofs.Common.{ℕ, ◌<◌}
use Rattle.pmg_audit.specs.Runs.{HasJournal}
use Rattle.pmg_audit.proofs.auditing.have_all.Given as goal

abbrev pub invariant-loop-index : goal.invariant-loop-index
invariant-loop-index l = (n : ℕ) → n < l.index → HasJournal l.journals n
