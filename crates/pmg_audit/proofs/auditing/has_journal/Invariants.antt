use Rattle.std.proofs.Common.{◌≡◌, take}
use Rattle.pmg_value.specs.Lists.{Each}
use Rattle.pmg_journal.specs.declared.journal.Journal.{Journal}
use Rattle.pmg_audit.proofs.auditing.has_journal.Given as goal

abbrev pub invariant-loop-journal : goal.invariant-loop-journal
invariant-loop-journal l = Each (λ (j : Journal). j.node ≡ l.node → ⊥) (take l.journal-index l.journals)
