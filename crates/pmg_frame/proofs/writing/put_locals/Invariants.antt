use Rattle.std.proofs.Common.{◌≡◌, ◌++◌, drop}
use Rattle.std.specs.List.{flat_map}
use Rattle.pmg_frame.specs.Spelling.{local_spelling}
use Rattle.pmg_frame.proofs.writing.put_locals.Given as goal

-- those so far, and those that are left, are all of them
abbrev pub invariant-loop-local : goal.invariant-loop-local
invariant-loop-local l = l.out.items ++ flat_map local_spelling (drop l.local-index l.locals) ≡ l.fn.out.items ++ flat_map local_spelling l.locals
