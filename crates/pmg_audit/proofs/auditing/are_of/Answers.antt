use Rattle.std.proofs.Common.{◌≡◌, sym, ap, ◌∙◌, rules}
use Rattle.std.proofs.lemmas.Bool.{false≢true}
use Rattle.pmg_journal.specs.declared.journal.Journal.{Journal}
use Rattle.pmg_audit.proofs.LaneLemmas.{in_get}
use Rattle.pmg_audit.proofs.SayingLemmas.{each_all, each_in, each_more}
use Rattle.pmg_audit.proofs.auditing.are_of.Goals as goal

pub returns-then-not-is_same-clause-other : goal.returns-then-not-is_same-clause-other
returns-then-not-is_same-clause-other c = λ _ each.
    let j : Journal = c.journal-item.result in
    let same = each_in (λ (x : Journal). x.registry ≡ c.args.registry.now) c.args.journals.now j each (in_get c.args.journals.now c.loop-journal.journal-index j (search rules) c.journal-item.is) in
    false≢true (sym c.if-not-is_same.true ∙ c.is_same.ensures.1 (c.registry.ensures ∙ same))

pub loop-journal-preserved : goal.loop-journal-preserved
loop-journal-preserved c =
    let j : Journal = c.journal-item.result in
    each_more (λ (x : Journal). x.registry ≡ c.args.registry.now) c.args.journals.now c.loop-journal.journal-index j (search rules) c.loop-journal.invariant
    (ap (λ (x : Journal). x.registry) (sym c.journal-item.is) ∙ sym c.registry.ensures ∙ c.is_same.ensures.0 c.if-not-is_same.false)

pub returns-clause-all : goal.returns-clause-all
returns-clause-all c = λ _. each_all (λ (x : Journal). x.registry ≡ c.args.registry.now) c.args.journals.now c.loop-journal.journal-index (search rules) c.loop-journal.invariant
