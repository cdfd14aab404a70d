use Rattle.std.proofs.Common.{ℕ, ◌≡◌, ◌+◌, ◌<◌, get_or, true}
use Rattle.pmg_commit.specs.declared.piece.PieceEntry.{PieceEntry}
use Rattle.pmg_commit.specs.Pieces.{entry_of, is_key_rising}
use Rattle.pmg_commit.proofs.piece.are_keys_rising.Given as goal

abbrev pub invariant-loop-i : goal.invariant-loop-i
invariant-loop-i l = (k : ℕ) (d : PieceEntry) → k + 1 < l.i → is_key_rising (entry_of (get_or l.entries k d)) (entry_of (get_or l.entries (k + 1) d)) ≡ true
