use Rattle.std.proofs.Common.{◌≡◌, ◌≤◌, ◌*◌, take}
use Rattle.std.specs.List.{sum_by}
use Rattle.pmg_pset.specs.Members.{proc_size}
use Rattle.pmg_pset.proofs.members.bodies_size.Given as goal

abbrev pub invariant-loop-process : goal.invariant-loop-process
invariant-loop-process l = record {
  so_far : l.size ≡ sum_by proc_size (take l.process-index l.procs);
  bound : l.size ≤ 260 * l.process-index;
}
