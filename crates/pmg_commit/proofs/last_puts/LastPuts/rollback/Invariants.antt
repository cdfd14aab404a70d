use Rattle.std.proofs.Common.{◌≡◌, length}
use Rattle.pmg_commit.specs.TakenBack.{all_back}
use Rattle.pmg_commit.proofs.last_puts.LastPuts.rollback.Given as goal

abbrev pub decreases-loop-key : goal.decreases-loop-key
decreases-loop-key l = length l.before.items

abbrev pub invariant-loop-key : goal.invariant-loop-key
invariant-loop-key l = all_back l.self l.before.items ≡ all_back l.fn.self l.fn.before.items
