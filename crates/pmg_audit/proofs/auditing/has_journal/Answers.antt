use Rattle.std.proofs.Common.{◌≡◌, ap, ◌∙◌, rules}
use Rattle.pmg_journal.specs.declared.journal.Journal.{Journal}
use Rattle.pmg_audit.proofs.LaneLemmas.{in_get}
use Rattle.pmg_audit.proofs.SayingLemmas.{each_all, each_more}
use Rattle.pmg_audit.proofs.auditing.has_journal.Goals as goal

pub returns-then-eq-clause-some : goal.returns-then-eq-clause-some
returns-then-eq-clause-some c = λ _.
    let j : Journal = c.journal-item.result in
    let same : j.node ≡ c.args.node = search rules in
    (j, in_get c.args.journals.now c.loop-journal.journal-index j (search rules) c.journal-item.is, same)

pub loop-journal-preserved : goal.loop-journal-preserved
loop-journal-preserved c =
    let j : Journal = c.journal-item.result in
    let other : j.node ≡ c.args.node → ⊥ = search rules in
    each_more (λ (x : Journal). x.node ≡ c.args.node → ⊥) c.args.journals.now c.loop-journal.journal-index j (search rules) c.loop-journal.invariant
    (λ same. other (ap (λ (x : Journal). x.node) c.journal-item.is ∙ same))

pub returns-clause-none : goal.returns-clause-none
returns-clause-none c = λ _. each_all (λ (x : Journal). x.node ≡ c.args.node → ⊥) c.args.journals.now c.loop-journal.journal-index (search rules) c.loop-journal.invariant
