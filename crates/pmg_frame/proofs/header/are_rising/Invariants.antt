use Rattle.std.proofs.Common.{ℕ, ◌≡◌, ◌+◌, ◌<◌, get_or, true}
use Rattle.pmg_frame.specs.declared.local.Local.{Local}
use Rattle.pmg_frame.specs.Fences.{is_local_rising}
use Rattle.pmg_frame.proofs.header.are_rising.Given as goal

abbrev pub invariant-loop-i : goal.invariant-loop-i
invariant-loop-i l = (k : ℕ) (d : Local) → k + 1 < l.i → is_local_rising (get_or l.locals k d) (get_or l.locals (k + 1) d) ≡ true
