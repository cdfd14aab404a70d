use Rattle.pmg_commit.proofs.PieceFacts.{piece_facts}
use Rattle.pmg_commit.proofs.piece.Piece.proc.Goals as goal

pub returns-clause-commits : goal.returns-clause-commits
returns-clause-commits c = (piece_facts _ c.self.invariant).commits
