use Rattle.pmg_value.specs.Items.{items_in}
use Rattle.pmg_wire.proofs.Writing.{HasWritten}
use Rattle.pmg_wire.proofs.put.put_items.Given as goal

abbrev pub invariant-loop-i : goal.invariant-loop-i
invariant-loop-i l = HasWritten (items_in l.items) l.i l.fn.out.items l.out.items l.out.spare
