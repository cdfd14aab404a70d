use Rattle.std.proofs.Common.{◌≡◌, length, Some, slice_get, refl, subst, rules}
use Rattle.pmg_jobinfo.specs.Jobs.{Jobs}
use Rattle.pmg_audit.specs.Runs.{AreJournals}
use Rattle.pmg_audit.proofs.AuditLemmas.{none_one, not_one}
use Rattle.pmg_audit.proofs.auditing.audit_among.Goals as goal

pub returns-then-not-are_journals-clause-refused : goal.returns-then-not-are_journals-clause-refused
returns-then-not-are_journals-clause-refused c =
    let is : slice_get c.args.journals.now 0 ≡ Some c.in-Some.first.now = search rules in
    let other : AreJournals c.in-Some.first.now.registry c.args.journals.now → ⊥ = subst (λ (jobs : Jobs). AreJournals jobs c.args.journals.now → ⊥) c.registry-group.ensures (c.if-not-are_journals.ensures.other refl) in
    not_one c.args.journals.now c.in-Some.first.now is other

pub returns-in-None-clause-refused : goal.returns-in-None-clause-refused
returns-in-None-clause-refused c =
    let none : length c.args.journals.now ≡ 0 = search rules in
    none_one c.args.journals.now none
