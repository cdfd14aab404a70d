use Rattle.pmg_commit.proofs.PieceFacts.{piece_facts}
use Rattle.pmg_commit.proofs.piece.Piece.from.Goals as goal

pub returns-clause-order : goal.returns-clause-order
returns-clause-order c = rw (← c.self.view_is) (piece_facts _ c.self.invariant).order
