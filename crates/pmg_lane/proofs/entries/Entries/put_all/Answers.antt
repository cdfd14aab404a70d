use Rattle.std.proofs.Common.{map}
use Rattle.std.specs.Vec.Iter.{into_iter_items}
use Rattle.pmg_value.specs.Lists.{In}
use Rattle.pmg_commit.specs.Pieces.{entry_of}
use Rattle.pmg_lane.proofs.Settling.{settles_next, late_trans, in_map, map_step, in_first, in_rest}
use Rattle.pmg_lane.proofs.Moving.{has_stays, stay_trans}
use Rattle.pmg_lane.proofs.entries.Entries.put_all.Goals as goal

pub loop-entry-preserved : goal.loop-entry-preserved
loop-entry-preserved c =
    let level = c.args.level in
    let a = c.loop-entry.self in
    let b = c.put.new.self in
    let inv = c.loop-entry.invariant in
    let put = c.put.ensures in
    let entry = c.in-Some.entry in
    let step = c.in-Some.ensures.steps.0 in (
      settles_next level c.args.self.now a b (entry_of entry) _ _ (λ e. In e (map entry_of (into_iter_items c.next.new.self))) inv.0 put.settles
          (in_map entry_of c.args.entries.items entry (inv.4 entry (in_first entry _ _ step)))
          (λ e i. map_step entry_of entry _ _ e step i),
      put.within,
      late_trans level c.args.self.now a b inv.2 put.late,
      λ e i. has_stays a b level e.number e.key put.stay (inv.3 e (in_rest e entry _ _ step i)),
      λ e i. inv.4 e (in_rest e entry _ _ step i),
      stay_trans c.args.self.now a b inv.5 put.stay,
    )
