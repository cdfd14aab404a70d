use Rattle.std.proofs.Common.{◌≡◌, ◌+◌, ◌≤◌, drop}
use Rattle.std.specs.FinSet as set
use Rattle.pmg_jobinfo.specs.Expansion.{expansion}
use Rattle.pmg_jobinfo.proofs.registry.Registry.count_meant.Given as goal

-- those are left for whom the rest of the list stands
abbrev pub invariant-loop-i : goal.invariant-loop-i
invariant-loop-i l = record {
  so_far : l.count + set.len (expansion l.self (drop l.i l.list)) ≡ set.len (expansion l.self l.list);
  few : l.count ≤ 4096;
}
