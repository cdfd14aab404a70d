use Rattle.std.proofs.Common.{◌≡◌, ◌+◌, ◌*◌, ◌≤◌, drop}
use Rattle.std.specs.FinSet as set
use Rattle.pmg_jobinfo.specs.Expansion.{expansion, expansion_size}
use Rattle.pmg_jobinfo.proofs.registry.Registry.size_meant.Given as goal

-- those are left for whom the rest of the list stands
abbrev pub invariant-loop-i : goal.invariant-loop-i
invariant-loop-i l = record {
  so_far : l.size + expansion_size l.self (drop l.i l.list) ≡ expansion_size l.self l.list;
  few : l.size + 260 * set.len (expansion l.self (drop l.i l.list)) ≤ 260 * set.len (expansion l.self l.list);
}
