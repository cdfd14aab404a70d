use Rattle.std.proofs.Common.{◌≡◌, drop, map}
use Rattle.pmg_join.specs.Joins.{join_all}
use Rattle.pmg_commit.specs.Data.{join_data, of_contribution}
use Rattle.pmg_store.specs.Pieces.{data_of}
use Rattle.pmg_store.proofs.store.Store.of_pieces.Given as goal

-- what was taken so far, with what is left, is all
abbrev pub invariant-loop-piece : goal.invariant-loop-piece
invariant-loop-piece l =
    join_all join_data l.store (map of_contribution (drop l.piece-index l.pieces)) ≡ data_of l.pieces
