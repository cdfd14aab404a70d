use Rattle.std.proofs.Common.{◌≡◌}
use Rattle.std.specs.BTreeMap.{btree_map_len}
use Rattle.pmg_value.specs.Maps.{join_options}
use Rattle.pmg_join.specs.Maps.{meant_at, HaveRoomFor}
use Rattle.pmg_join.proofs.map_join.MapJoinTwoPhaseJoin.take.Given as goal

-- what was taken so far, with what is left, is all
abbrev pub invariant-loop-key : goal.invariant-loop-key
invariant-loop-key g l = record {
  room : HaveRoomFor g.K.Ord.cmp g.J.TwoPhaseJoin.HasRoom l.self.table l.places;
  joined : (q : g.row.K.Denot) → join_options g.J.Join.joined (meant_at g.K.Ord.cmp g.J.Join.meaning l.self.table q) (meant_at g.K.Ord.cmp g.J.Join.meaning l.places q)
      ≡ join_options g.J.Join.joined (meant_at g.K.Ord.cmp g.J.Join.meaning l.fn.self.table q) (meant_at g.K.Ord.cmp g.J.Join.meaning l.fn.other.table q);
}

abbrev pub decreases-loop-key : goal.decreases-loop-key
decreases-loop-key g l = btree_map_len l.places
