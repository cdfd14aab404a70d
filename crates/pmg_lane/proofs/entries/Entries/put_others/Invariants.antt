use Rattle.pmg_lane.specs.Entries.{place_count}
use Rattle.pmg_lane.proofs.Moving.{Moves}
use Rattle.pmg_lane.proofs.entries.Entries.put_others.Given as goal

-- those that were taken out are put, and there are places for the others
abbrev pub invariant-loop-key : goal.invariant-loop-key
invariant-loop-key l = Moves l.level l.fn.self l.fn.other l.self l.other

abbrev pub decreases-loop-key : goal.decreases-loop-key
decreases-loop-key l = place_count l.other
