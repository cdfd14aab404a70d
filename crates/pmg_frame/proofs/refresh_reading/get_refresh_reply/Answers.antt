use Rattle.pmg_commit.specs.Pieces.{contribution}
use Rattle.pmg_frame.proofs.RefreshTests.{read_reply_passes}
use Rattle.pmg_frame.proofs.refresh_reading.get_refresh_reply.Goals as goal

pub from_checked-requires : goal.from_checked-requires
from_checked-requires c =
    let x = c.in_ok-proc in
    read_reply_passes c.args.node c.args.request c.args.at.now (contribution x.proc x.from x.to x.entries.items) c.get_told.new.at c.requires.bound c.requires.number
    c.offset-start.ensures.bytes c.requires.small x.ensures
