use Rattle.std.proofs.Common.{◌≡◌, ◌≤◌, not}
use Rattle.std.specs.FinSet as set
use Rattle.std.specs.List.{count_by}
use Rattle.pmg_jobinfo.specs.Expansion.{ranks, expansion}
use Rattle.pmg_jobinfo.proofs.registry.Registry.count_new_ranks.Given as goal

-- those below the rank were counted
abbrev pub invariant-loop-rank : goal.invariant-loop-rank
invariant-loop-rank l = record {
  so_far : l.count ≡ count_by (λ rank. not (set.contains (expansion l.self l.list) (record { nspace = l.nspace; rank = rank }))) (ranks l.rank);
  few : l.count ≤ l.rank;
}
