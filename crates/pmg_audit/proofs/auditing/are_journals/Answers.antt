use Rattle.std.proofs.Common.{◌≡◌, length, refl, rules}
use Rattle.pmg_audit.proofs.auditing.are_journals.Goals as goal

pub returns-then-not-are_of-clause-other : goal.returns-then-not-are_of-clause-other
returns-then-not-are_of-clause-other c = λ _ are. c.if-not-are_of.ensures.other refl are.same

pub returns-clause-are : goal.returns-clause-are
returns-clause-are c = λ e.
    let count : length c.args.journals.now ≡ length c.args.registry.now.nodes = search rules in
    record { count = count; same = c.if-not-are_of.ensures.all refl; there = c.have_all.ensures.all e }

pub returns-clause-other : goal.returns-clause-other
returns-clause-other c = λ e are. c.have_all.ensures.other e are.there
