use Rattle.pmg_frame.proofs.RefreshTests.{piece_reply}
use Rattle.pmg_frame.proofs.refreshes.can_tell.Goals as goal

pub returns : goal.returns
returns c = rw (piece_reply c.args.node c.args.request c.args.piece.now c.size.ensures.piece) (rw (← c.size.ensures.value) c.is_small.ensures)
