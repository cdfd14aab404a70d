use Rattle.pmg_commit.proofs.PieceFacts.{piece_facts}
use Rattle.pmg_commit.proofs.piece.Piece.into_parts.Goals as goal

pub returns-clause-order : goal.returns-clause-order
returns-clause-order c = (piece_facts _ c.self.invariant).order

pub returns-clause-bound : goal.returns-clause-bound
returns-clause-bound c = (piece_facts _ c.self.invariant).bound
