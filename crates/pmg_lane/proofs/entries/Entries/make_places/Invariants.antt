use Rattle.std.proofs.Common.{drop, ◌⊎◌}
use Rattle.pmg_value.specs.Lists.{In}
use Rattle.pmg_commit.specs.declared.piece.PieceEntry.{PieceEntry}
use Rattle.pmg_lane.specs.Entries.{HoldAlike, PlacesStay, HasPlaces}
use Rattle.pmg_lane.proofs.entries.Entries.make_places.Given as goal

-- the entries are the same, and there are places for those that were seen
abbrev pub invariant-loop-entry : goal.invariant-loop-entry
invariant-loop-entry l =
    HoldAlike l.fn.self l.self
    × PlacesStay l.fn.self l.self
    × ((e : PieceEntry) → In e l.entries → In e (drop l.entry-index l.entries) ⊎ HasPlaces l.self l.level e.number e.key)
