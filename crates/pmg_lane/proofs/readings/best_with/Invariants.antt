use Rattle.std.proofs.Common.{◌≡◌, map, drop}
use Rattle.std.specs.Option.{option_map}
use Rattle.std.specs.List.{fold}
use Rattle.pmg_commit.specs.Entries.{best_of_two}
use Rattle.pmg_commit.specs.Pieces.{entry_of}
use Rattle.pmg_lane.specs.Readings.{seen_entry}
use Rattle.pmg_lane.proofs.readings.best_with.Given as goal

-- what is read so far, with what is left, is what is read of all
abbrev pub invariant-loop-entry : goal.invariant-loop-entry
invariant-loop-entry l =
    fold (best_of_two l.level l.key) (option_map (seen_entry l.key) l.best) (map entry_of (drop l.entry-index l.entries))
    ≡ fold (best_of_two l.level l.key) (option_map (seen_entry l.key) l.fn.best) (map entry_of l.entries)
