use Rattle.std.proofs.Common.{◌≤◌, length}
use Rattle.std.proofs.lemmas.List.{length-map}
use Rattle.pmg_commit.proofs.PieceFacts.{piece_facts}
use Rattle.pmg_commit.proofs.piece.Piece.size.Goals as goal

pub entries_size-requires : goal.entries_size-requires
entries_size-requires c =
    let h : length c.self.inside.entries.items ≤ 65536 = simp length-map at (piece_facts _ c.self.invariant).count in
    rw c.deref.ensures.value h

pub returns-clause-bound : goal.returns-clause-bound
returns-clause-bound c = rw (c.as_bytes.ensures.value, c.entries_size.ensures.value, c.deref.ensures.value) (piece_facts _ c.self.invariant).size
