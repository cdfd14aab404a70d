use Rattle.std.proofs.Common.{◌≡◌, ◌≤◌, ◌*◌, map, take}
use Rattle.std.specs.List.{sum_by}
use Rattle.pmg_commit.specs.Pieces.{entry_of, entry_size}
use Rattle.pmg_commit.proofs.piece.entries_size.Given as goal

abbrev pub invariant-loop-entry : goal.invariant-loop-entry
invariant-loop-entry l = record {
  so_far : l.size ≡ sum_by entry_size (map entry_of (take l.entry-index l.entries));
  bound : l.size ≤ 1049097 * l.entry-index;
}
