use Rattle.std.proofs.Common.{◌≡◌, map, drop}
use Rattle.std.specs.List.{list_all}
use Rattle.pmg_commit.specs.Pieces.{entry_of, is_numbered}
use Rattle.pmg_commit.proofs.piece.are_numbered.Given as goal

abbrev pub invariant-loop-entry : goal.invariant-loop-entry
invariant-loop-entry l = list_all (is_numbered l.from l.to) (map entry_of l.entries) ≡ list_all (is_numbered l.from l.to) (map entry_of (drop l.entry-index l.entries))
