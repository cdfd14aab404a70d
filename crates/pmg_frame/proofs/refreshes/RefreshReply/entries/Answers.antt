use Rattle.std.proofs.Common.{arith}
use Rattle.std.proofs.lemmas.List.{length-map}
use Rattle.pmg_commit.specs.Pieces.{entry_of, contribution}
use Rattle.pmg_frame.specs.Refreshing.{refresh_reply}
use Rattle.pmg_frame.proofs.RefreshTests.{told_of, told_few}
use Rattle.pmg_frame.proofs.refreshes.RefreshReply.entries.Goals as goal

pub returns-clause-few : goal.returns-clause-few
returns-clause-few c =
    let x = c.self.inside in
    let told = contribution x.proc x.from x.to x.entries.items in
    let few = told_few told (told_of (refresh_reply x.node x.request told) c.self.invariant) in
    rw c.deref.ensures.value (omega (arith, few, length-map x.entries.items entry_of))
