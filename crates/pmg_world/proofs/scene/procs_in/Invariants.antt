use Rattle.std.proofs.Common.{◌≡◌, take}
use Rattle.pmg_value.specs.Items.{items_in}
use Rattle.pmg_value.specs.Spelling.{plains_of}
use Rattle.pmg_world.specs.Stages.{proc_elements}
use Rattle.pmg_world.proofs.scene.procs_in.Given as goal

-- the processes among the items so far
abbrev pub invariant-loop-i : goal.invariant-loop-i
invariant-loop-i l = l.procs.items ≡ proc_elements (plains_of (take l.i (items_in l.items)))
