use Rattle.std.proofs.Common.{◌≡◌, map, drop}
use Rattle.std.specs.Option.{option_map}
use Rattle.std.specs.List.{fold}
use Rattle.pmg_commit.specs.Entries.{best_of_two}
use Rattle.pmg_commit.specs.Pieces.{entry_of}
use Rattle.pmg_commit.proofs.reading.best_of.Given as goal

abbrev pub invariant-loop-entry : goal.invariant-loop-entry
invariant-loop-entry l =
    fold (best_of_two l.level l.key) (option_map (λ e. entry_of e.now) l.best) (map entry_of (drop l.entry-index l.entries))
    ≡ fold (best_of_two l.level l.key) (option_map (λ e. entry_of e.now) l.initial.best) (map entry_of l.entries)
