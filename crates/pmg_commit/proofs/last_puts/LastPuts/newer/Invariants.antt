use Rattle.std.proofs.Common.{◌≡◌, ◌++◌, map}
use Rattle.pmg_commit.specs.Pieces.{entry_of}
use Rattle.pmg_commit.specs.Sealed.{newer_than}
use Rattle.pmg_commit.proofs.StampLemmas.{newer_rows}
use Rattle.pmg_commit.proofs.last_puts.LastPuts.newer.Given as goal

abbrev pub invariant-loop-key : goal.invariant-loop-key
invariant-loop-key l = map entry_of l.entries.items ++ newer_rows l.from l.key-iterator ≡ newer_than l.from l.self
