use Rattle.pmg_commit.specs.Pieces.{contribution}
use Rattle.pmg_frame.proofs.PieceTests.{read_passes}
use Rattle.pmg_frame.proofs.piece_reading.get_piece.Goals as goal

pub from_checked-requires : goal.from_checked-requires
from_checked-requires c =
    let x = c.in_ok-process in
    let piece = contribution x.process x.from x.to x.entries.items in
    read_passes c.args.at.now piece c.get_told.new.at c.offset-start.ensures.bytes c.requires x.ensures
