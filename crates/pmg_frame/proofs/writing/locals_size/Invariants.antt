use Rattle.std.proofs.Common.{◌≡◌, ◌+◌, ◌*◌, ◌≤◌, length, drop}
use Rattle.std.specs.List.{flat_map}
use Rattle.pmg_frame.specs.Spelling.{local_spelling}
use Rattle.pmg_frame.proofs.writing.locals_size.Given as goal

-- those so far, and those that are left, are all of them
abbrev pub invariant-loop-local : goal.invariant-loop-local
invariant-loop-local l = record {
  so_far : l.size + length (flat_map local_spelling (drop l.local-index l.locals)) ≡ length (flat_map local_spelling l.locals);
  bound : l.size ≤ 269 * l.local-index;
}
