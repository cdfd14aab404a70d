use Rattle.std.proofs.Common.{◌≡◌}
use Rattle.std.specs.Prelude.{Some}
use Rattle.std.specs.BTreeMap.{get}
use Rattle.std.specs.List.{AllByRecursion}
use Rattle.pmg_join.specs.Maps.{meant_at}
use Rattle.pmg_join.proofs.MapSteps.{IsSeen}
use Rattle.pmg_join.proofs.map_join.MapJoinTwoPhaseJoin.make_room.Given as goal

-- what is meant is the same, and there is room for the parts that were seen
abbrev pub invariant-loop-key : goal.invariant-loop-key
invariant-loop-key g l = record {
  same : (q : g.row.K.Denot) → meant_at g.K.Ord.cmp g.J.Join.meaning l.self.table q ≡ meant_at g.K.Ord.cmp g.J.Join.meaning l.fn.self.table q;
  room : (q : g.row.K.Denot) → IsSeen g.K.Ord.cmp g.J.TwoPhaseJoin.HasRoom l.other.table l.self.table l.key-iterator q;
  found : AllByRecursion (λ e. get g.K.Ord.cmp l.other.table e.0 ≡ Some e.1) l.key-iterator;
}
