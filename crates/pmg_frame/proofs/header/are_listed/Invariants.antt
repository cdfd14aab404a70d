use Rattle.std.proofs.Common.{◌≡◌, drop}
use Rattle.std.specs.List.{list_all}
use Rattle.pmg_frame.specs.Fences.{is_listed}
use Rattle.pmg_frame.proofs.header.are_listed.Given as goal

abbrev pub invariant-loop-local : goal.invariant-loop-local
invariant-loop-local l = list_all (is_listed l.name) l.locals ≡ list_all (is_listed l.name) (drop l.local-index l.locals)
