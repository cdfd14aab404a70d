use Rattle.std.proofs.Common.{map}
use Rattle.std.specs.Vec.Iter.{into_iter_items}
use Rattle.pmg_value.specs.Lists.{In}
use Rattle.pmg_commit.specs.Pieces.{entry_of}
use Rattle.pmg_commit.specs.declared.piece.PieceEntry.{PieceEntry}
use Rattle.pmg_lane.specs.Entries.{Settles, HasPlaces, PlacesStay, ReadsWithin, LateFrom}
use Rattle.pmg_lane.proofs.entries.Entries.put_all.Given as goal

-- those that were seen are put, and there are places for the others
abbrev pub invariant-loop-entry : goal.invariant-loop-entry
invariant-loop-entry l =
    Settles l.level l.fn.self (λ e. In e (map entry_of l.fn.entries.items)) l.self (λ e. In e (map entry_of (into_iter_items l.entry-iterator)))
    × ReadsWithin l.level l.self
    × LateFrom l.level l.fn.self l.self
    × ((e : PieceEntry) → In e (into_iter_items l.entry-iterator) → HasPlaces l.self l.level e.number e.key)
    × ((e : PieceEntry) → In e (into_iter_items l.entry-iterator) → In e l.fn.entries.items)
    × PlacesStay l.fn.self l.self
