use Rattle.pmg_commit.specs.Pieces.{contribution}
use Rattle.pmg_frame.specs.Refreshing.{refresh_reply}
use Rattle.pmg_frame.proofs.RefreshTests.{told_of, told_some}
use Rattle.pmg_frame.proofs.refreshes.RefreshReply.into_piece.Goals as goal

pub from_checked-requires : goal.from_checked-requires
from_checked-requires c =
    let x = c.self.inside in
    let told = contribution x.proc x.from x.to x.entries.items in
    told_some told (told_of (refresh_reply x.node x.request told) c.self.invariant) c.if-from-to.true
