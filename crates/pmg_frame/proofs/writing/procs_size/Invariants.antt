use Rattle.std.proofs.Common.{◌≡◌, ◌+◌, ◌*◌, ◌≤◌, length, drop}
use Rattle.std.specs.List.{flat_map}
use Rattle.pmg_wire.specs.Spelling.{proc_spelling}
use Rattle.pmg_frame.proofs.writing.procs_size.Given as goal

-- those so far, and those that are left, are all of them
abbrev pub invariant-loop-process : goal.invariant-loop-process
invariant-loop-process l = record {
  so_far : l.size + length (flat_map proc_spelling (drop l.process-index l.procs)) ≡ length (flat_map proc_spelling l.procs);
  bound : l.size ≤ 260 * l.process-index;
}
