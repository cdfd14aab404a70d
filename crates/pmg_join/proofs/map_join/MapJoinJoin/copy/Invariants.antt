use Rattle.std.proofs.Common.{◌≡◌}
use Rattle.std.specs.Prelude.{Some}
use Rattle.std.specs.BTreeMap.{get}
use Rattle.std.specs.List.{AllByRecursion}
use Rattle.pmg_join.proofs.MapSteps.{IsCopied}
use Rattle.pmg_join.proofs.map_join.MapJoinJoin.copy.Given as goal

-- the parts that were seen are copied
abbrev pub invariant-loop-key : goal.invariant-loop-key
invariant-loop-key g l = record {
  same : (q : g.row.K.Denot) → IsCopied g.K.Ord.cmp g.J.Join.meaning l.self.table l.copy.table l.key-iterator q;
  found : AllByRecursion (λ e. get g.K.Ord.cmp l.self.table e.0 ≡ Some e.1) l.key-iterator;
}
