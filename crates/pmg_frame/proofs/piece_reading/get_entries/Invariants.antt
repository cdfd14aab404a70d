use Rattle.std.proofs.Common.{◌≡◌, ◌-◌, map, None}
use Rattle.pmg_wire.specs.Many.{many}
use Rattle.pmg_wire.proofs.Counted.{with_front, last_of}
use Rattle.pmg_commit.specs.Pieces.{entry_of}
use Rattle.pmg_frame.specs.PieceReading.{read_entry}
use Rattle.pmg_frame.proofs.piece_reading.get_entries.Given as goal

-- the entries so far, and those that are still read, are all of them
abbrev pub invariant-loop : goal.invariant-loop
invariant-loop l =
    let read = read_entry l.from l.to in
    with_front (map entry_of l.entries.items) (many read (l.count - l.counter) (last_of (map entry_of l.entries.items)) l.at) ≡ many read l.count None l.fn.at
