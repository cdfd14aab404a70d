use Rattle.std.proofs.Common.{◌≡◌, ◌<◌, length, inl, inr, refl, sym, subst, ◌∙◌, rules, arith}
use Rattle.pmg_journal.specs.declared.journal.Journal.{Journal}
use Rattle.pmg_audit.specs.Runs.{HasJournal}
use Rattle.pmg_audit.proofs.NodeSteps.{three}
use Rattle.pmg_audit.proofs.SayingLemmas.{each_in}
use Rattle.pmg_audit.proofs.auditing.have_all.Goals as goal

pub returns-then-not-has_journal-clause-other : goal.returns-then-not-has_journal-clause-other
returns-then-not-has_journal-clause-other c = λ _ all.
    let k = c.loop-index.index in
    let node : c.from_checked.result ≡ k = search rules in
    let has = all k (search rules) in
    each_in (λ (j : Journal). j.node ≡ c.from_checked.result → ⊥) c.args.journals.now has.0 (c.if-not-has_journal.ensures.none refl) has.1 (has.2 ∙ sym node)

pub loop-index-preserved : goal.loop-index-preserved
loop-index-preserved c = λ n less.
    let k = c.loop-index.index in
    let node : c.from_checked.result ≡ k = search rules in
    elim (three n k) [
      | inl l ↦ c.loop-index.invariant n l
      | inr rest ↦ elim rest [
        | inl same ↦ subst (HasJournal c.args.journals.now) (node ∙ sym same) (c.if-not-has_journal.ensures.some refl)
        | inr more ↦ absurd (omega (arith, less, more))
      ]
    ]

pub returns-clause-all : goal.returns-clause-all
returns-clause-all c = λ _ n less.
    let end : c.loop-index.index ≡ length c.args.registry.now.nodes = search rules in
    c.loop-index.invariant n (subst (λ l. n < l) (sym end) less)
