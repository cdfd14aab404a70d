use Rattle.std.proofs.Common.{◌≡◌, ◌++◌, map}
use Rattle.pmg_world.specs.Telling.{happened_of}
use Rattle.pmg_audit.specs.Codes.{audited_put}
use Rattle.pmg_audit.specs.Orders.{put_told}
use Rattle.pmg_audit.proofs.ordering.tell_puts.Given as goal

abbrev pub invariant-loop-put : goal.invariant-loop-put
invariant-loop-put l = map happened_of l.told.items ≡ map happened_of l.fn.told.items ++ map (put_told l.proc) (map audited_put l.yielded)
