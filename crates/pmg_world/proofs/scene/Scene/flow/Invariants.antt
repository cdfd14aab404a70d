use Rattle.std.proofs.Common.{◌≤◌}
use Rattle.pmg_world.proofs.FlowLemmas.{Flowing}
use Rattle.pmg_world.proofs.scene.Scene.flow.Given as goal

-- of the frames so far, those were delivered that had to be
abbrev pub invariant-loop-frame : goal.invariant-loop-frame
invariant-loop-frame l = record { within : l.frame ≤ l.count; flows : Flowing l.fn.self l.self l.frame l.done }
