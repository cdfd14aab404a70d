use Rattle.std.proofs.Common.{◌≡◌, ◌++◌, drop}
use Rattle.pmg_desk.proofs.happening.frames_from.Given as goal

abbrev pub invariant-loop-index : goal.invariant-loop-index
invariant-loop-index l = l.frames.items ++ drop l.index l.outbox.items ≡ drop l.first l.outbox.items
