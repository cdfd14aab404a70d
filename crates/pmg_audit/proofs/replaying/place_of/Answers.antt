use Rattle.std.proofs.Common.{◌≡◌, true, nat_eq}
use Rattle.pmg_journal.specs.declared.journal.Journal.{Journal}
use Rattle.pmg_audit.proofs.JournalSteps.{journal_there}
use Rattle.pmg_audit.proofs.replaying.place_of.Goals as goal

pub returns-then-eq-clause-some : goal.returns-then-eq-clause-some
returns-then-eq-clause-some c =
    let j : Journal = c.index-journals-index.result in
    let is = c.index-journals-index.is in
    let node = c.node.ensures in
    let same = c.if-eq.ensures in
    let test : nat_eq j.node c.args.node ≡ true = cc in
    journal_there c.args.journals.now c.loop-index.index c.args.node j test c.loop-index-test.true is c.loop-index.invariant
