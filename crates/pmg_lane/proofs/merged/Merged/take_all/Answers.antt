use Rattle.std.proofs.Common.{◌≤◌, inl, inr, sym, ap, subst, ◌∙◌}
use Rattle.std.specs.Prelude.{IsSome}
use Rattle.pmg_join.specs.Ranges.{set_of}
use Rattle.pmg_commit.specs.Levels.{level}
use Rattle.pmg_lane.specs.Entries.{ReadsWithin, IsRoomyTo, HasPlaces, LatePast, HasEntry, NoneLeft}
use Rattle.pmg_lane.specs.Waiting.{HasRoomUnder, HaveReached, IsStocked, IsWaiting, Stocks, WaitPast, list_items, waiting_at}
use Rattle.pmg_lane.specs.declared.merged.Merged.{Merged}
use Rattle.pmg_lane.proofs.Settling.{late_trans}
use Rattle.pmg_lane.proofs.Waits.{reached_stay, room_stays, stay_at, stocks_both, stocks_then, settles_stocks}
use Rattle.pmg_lane.proofs.Merging.{level_reached, level_up, level_is_of, within_up, joined_level, joined_reached, make_merged, past_from, joined_core}
use Rattle.pmg_lane.proofs.merged.Merged.take_all.Goals as goal

pub promote-requires : goal.promote-requires
promote-requires c =
    let t = c.args.self.now in
    let ends = c.fill_rooms.new.self.ends in
    let is = level_reached ends c.level-level.result c.level-level.ensures.reached c.level-level.ensures.no_more in
    let filled = c.fill_rooms.ensures in
    record {
      within = within_up (level (set_of t.taken.ends)) c.level-level.result t.entries (subst (λ n. level (set_of t.taken.ends) ≤ n) (sym is) (level_up t.taken.ends ends filled.kept))
          (subst (λ n. ReadsWithin n t.entries) (level_is_of t) c.requires.kept.within);
      roomy = subst (λ n. IsRoomyTo n t.entries) (sym (is ∙ joined_level t c.args.other ends filled.kept filled.added filled.no_more)) c.requires.room.promoted;
    }

pub put_reached-requires-clause-room : goal.put_reached-requires-clause-room
put_reached-requires-clause-room c =
    let t = c.args.self.now in
    let filled = c.fill_rooms.ensures in
    let is = joined_reached t c.args.other c.fill_rooms.new.self.ends filled.kept filled.added filled.no_more c.level-level.result c.level-level.ensures.reached
    c.level-level.ensures.no_more in
    reached_stay t.entries c.promote.new.self t.waiting.lists c.level-level.result c.promote.ensures.stay
    (subst (HaveReached t.entries t.waiting.lists) (sym is) c.requires.room.reached)

pub put_others-requires-clause-places : goal.put_others-requires-clause-places
put_others-requires-clause-places c e h =
    let t = c.args.self.now in
    let ends = c.fill_rooms.new.self.ends in
    let is = level_reached ends c.level-level.result c.level-level.ensures.reached c.level-level.ensures.no_more in
    let filled = c.fill_rooms.ensures in
    stay_at c.level-level.result c.promote.new.self c.put_reached.new.entries c.put_reached.ensures.places e.number e.key
    (c.promote.ensures.stay e.number e.key
    (subst (λ n. HasPlaces t.entries n e.number e.key) (sym (is ∙ joined_level t c.args.other ends filled.kept filled.added filled.no_more)) (c.requires.room.places e h)))

pub put_others-requires-2-clause-room : goal.put_others-requires-2-clause-room
put_others-requires-2-clause-room c n =
    let t = c.args.self.now in
    let o = c.args.other in
    let ends = c.fill_rooms.new.self.ends in
    let filled = c.fill_rooms.ensures in
    let level = c.level-level.result in
    let is = level_reached ends level c.level-level.ensures.reached c.level-level.ensures.no_more in
    let lists = c.put_reached.new.self.lists in
    let es = waiting_at o.waiting.lists n in
    room_stays t.entries c.put_others.new.self t.waiting.lists lists level n es
    (λ m key has. stay_at level c.put_reached.new.entries c.put_others.new.self c.put_others.ensures.stay m key
    (stay_at level c.promote.new.self c.put_reached.new.entries c.put_reached.ensures.places m key (c.promote.ensures.stay m key has)))
    (λ over. ap list_items (c.put_reached.ensures.others n over))
    (λ over has. subst IsSome (sym (c.put_reached.ensures.others n over)) has)
    (subst (λ m. HasRoomUnder t.entries t.waiting.lists m n es) (sym (is ∙ joined_level t o ends filled.kept filled.added filled.no_more)) (c.requires.room.waiting n))

pub returns : goal.returns
returns c =
    let t = c.args.self.now in
    let o = c.args.other in
    let u : Merged = record { taken = c.fill_rooms.new.self; entries = c.put_others-2.new.entries; waiting = c.put_others-2.new.self } in
    let n = c.level-level.result in
    let is = level_reached c.fill_rooms.new.self.ends n c.level-level.ensures.reached c.level-level.ensures.no_more in
    let filled = c.fill_rooms.ensures in
    let some = c.promote.new.self in
    let more = c.put_reached.new.entries in
    let others = c.put_others.new.self in
    let lists = c.put_reached.new.self.lists in
    let late = late_trans n some others u.entries (late_trans n some more others c.put_reached.ensures.late c.put_others.ensures.late) c.put_others-2.ensures.late in
    let past = past_from n some u.entries c.promote.ensures.past late in
    let promoted = settles_stocks n t.entries some t.waiting.lists NoneLeft c.promote.ensures.settles in
    let reached = stocks_then n t.entries some more t.waiting.lists t.waiting.lists lists NoneLeft promoted c.put_reached.ensures.stocks in
    let kept = stocks_then n t.entries more others t.waiting.lists lists lists (HasEntry o.entries) reached
    (settles_stocks n more others lists (HasEntry o.entries) c.put_others.ensures.settles) in
    let taken = stocks_both n t.entries others u.entries t.waiting.lists lists u.waiting.lists (HasEntry o.entries) (IsWaiting o.waiting.lists) kept c.put_others-2.ensures.stocks in
    record {
      kept = make_merged u filled.apart (subst (λ n. ReadsWithin n u.entries) is c.put_others-2.ensures.within) (subst (λ n. LatePast n u.entries) is past)
          (subst (λ n. WaitPast n u.waiting.lists) is (c.put_others-2.ensures.past c.put_reached.ensures.past)) c.put_others-2.ensures.numbered
          (λ n h. elim (filled.no_more n h) [ inl a ↦ c.requires.kept.bound n a | inr b ↦ c.requires.other.bound n b ]);
      taken = joined_core t o u filled.kept filled.added filled.no_more
          (subst (λ n. Stocks n t.entries t.waiting.lists (IsStocked o.entries o.waiting.lists) u.entries u.waiting.lists NoneLeft) is taken);
    }
