use Rattle.std.proofs.Common.{◌≤◌, length, arith}
use Rattle.std.proofs.lemmas.Grind.{common_steps}
use Rattle.std.proofs.lemmas.List.{length-map}
use Rattle.pmg_commit.proofs.PieceFacts.{piece_facts}
use Rattle.pmg_commit.proofs.piece.Piece.count.Goals as goal

pub returns-clause-bound : goal.returns-clause-bound
returns-clause-bound c =
    let h : length c.self.inside.entries.items ≤ 65536 = simp length-map at (piece_facts _ c.self.invariant).count in
    grind (arith, common_steps)
