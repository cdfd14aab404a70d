use Rattle.std.proofs.Common.{ℕ, ◌≤◌, inl, inr, sym, ap, ◌∙◌, subst, map, arith}
use Rattle.std.specs.Prelude.{IsSome}
use Rattle.pmg_join.specs.Ranges.{set_of}
use Rattle.pmg_commit.specs.Levels.{level}
use Rattle.pmg_commit.specs.Pieces.{entry_of}
use Rattle.pmg_value.specs.Lists.{In}
use Rattle.pmg_lane.specs.Entries.{ReadsWithin, IsRoomyTo, LatePast, NoneLeft}
use Rattle.pmg_lane.specs.Waiting.{AreFrom, HasRoomUnder, HaveReached, Stocks, WaitPast, list_items, wait_number}
use Rattle.pmg_lane.specs.declared.merged.Merged.{Merged}
use Rattle.pmg_lane.proofs.Settling.{late_trans}
use Rattle.pmg_lane.proofs.Waits.{reached_stay, room_stays, stay_at, stocks_then, settles_stocks}
use Rattle.pmg_lane.proofs.Merging.{level_reached, level_up, level_is_of, within_up, filled_level, filled_reached, make_merged, past_from, taken_core}
use Rattle.pmg_lane.proofs.merged.Merged.take.Goals as goal

pub promote-requires : goal.promote-requires
promote-requires c =
    let t = c.args.self.now in
    let ends = c.fill_room.new.self.ends in
    let filled = c.fill_room.ensures in
    let is = level_reached ends c.level-level.result c.level-level.ensures.reached c.level-level.ensures.no_more in
    record {
      within = within_up (level (set_of t.taken.ends)) c.level-level.result t.entries (subst (λ n. level (set_of t.taken.ends) ≤ n) (sym is) (level_up t.taken.ends ends filled.kept))
          (subst (λ n. ReadsWithin n t.entries) (level_is_of t) c.requires.kept.within);
      roomy = subst (λ n. IsRoomyTo n t.entries) (sym (is ∙ filled_level t ends c.args.from c.args.to filled.kept filled.added filled.no_more)) c.requires.room.promoted;
    }

pub put_reached-requires-clause-room : goal.put_reached-requires-clause-room
put_reached-requires-clause-room c =
    let t = c.args.self.now in
    let filled = c.fill_room.ensures in
    let is = filled_reached t c.fill_room.new.self.ends c.args.from c.args.to filled.kept filled.added filled.no_more c.level-level.result
    c.level-level.ensures.reached c.level-level.ensures.no_more in
    reached_stay t.entries c.promote.new.self t.waiting.lists c.level-level.result c.promote.ensures.stay
    (subst (HaveReached t.entries t.waiting.lists) (sym is) c.requires.room.reached)

pub put-requires-clause-room : goal.put-requires-clause-room
put-requires-clause-room c =
    let t = c.args.self.now in
    let ends = c.fill_room.new.self.ends in
    let filled = c.fill_room.ensures in
    let level = c.level-level.result in
    let is = level_reached ends level c.level-level.ensures.reached c.level-level.ensures.no_more in
    let es = c.args.entries.items in
    let lists = c.put_reached.new.self.lists in
    let number = c.wait_number-number.ensures.number ∙ ap (wait_number c.args.from) c.deref.ensures.value in
    subst (λ n. HasRoomUnder c.put_reached.new.entries lists level n es) (sym number)
    (room_stays t.entries c.put_reached.new.entries t.waiting.lists lists level (wait_number c.args.from es) es
    (λ n key has. stay_at level c.promote.new.self c.put_reached.new.entries c.put_reached.ensures.places n key (c.promote.ensures.stay n key has))
    (λ over. ap list_items (c.put_reached.ensures.others _ over))
    (λ over has. subst IsSome (sym (c.put_reached.ensures.others _ over)) has)
    (subst (λ n. HasRoomUnder t.entries t.waiting.lists n (wait_number c.args.from es) es)
    (sym (is ∙ filled_level t ends c.args.from c.args.to filled.kept filled.added filled.no_more)) c.requires.room.places))

pub put-requires-clause-lowest : goal.put-requires-clause-lowest
put-requires-clause-lowest c = subst (AreFrom c.wait_number-number.result) c.deref.ensures.value c.wait_number-number.ensures.lowest

within_bound : (n to : ℕ) → n ≤ to → to ≤ 4294967295 → n ≤ 4294967295
within_bound n to a b = omega arith

pub returns : goal.returns
returns c =
    let t = c.args.self.now in
    let ends = c.fill_room.new.self.ends in
    let u : Merged = record { taken = c.fill_room.new.self; entries = c.put.new.entries; waiting = c.put.new.self } in
    let n = c.level-level.result in
    let is = level_reached ends n c.level-level.ensures.reached c.level-level.ensures.no_more in
    let filled = c.fill_room.ensures in
    let some = c.promote.new.self in
    let more = c.put_reached.new.entries in
    let late = late_trans n some more u.entries c.put_reached.ensures.late c.put.ensures.late in
    let past = past_from n some u.entries c.promote.ensures.past late in
    let promoted = settles_stocks n t.entries some t.waiting.lists NoneLeft c.promote.ensures.settles in
    let reached = stocks_then n t.entries some more t.waiting.lists t.waiting.lists c.put_reached.new.self.lists NoneLeft promoted c.put_reached.ensures.stocks in
    let taken = stocks_then n t.entries more u.entries t.waiting.lists c.put_reached.new.self.lists u.waiting.lists _ reached c.put.ensures.stocks in
    record {
      kept = make_merged u filled.apart (subst (λ n. ReadsWithin n u.entries) is c.put.ensures.within) (subst (λ n. LatePast n u.entries) is past)
          (subst (λ n. WaitPast n u.waiting.lists) is (c.put.ensures.past c.put_reached.ensures.past)) c.put.ensures.numbered
          (λ n h. elim (filled.no_more n h) [ inl a ↦ c.requires.kept.bound n a | inr b ↦ within_bound n c.args.to b.1 c.requires.bound ]);
      taken = taken_core t u c.args.from c.args.to (map entry_of c.args.entries.items) filled.kept filled.added filled.no_more
          (subst (λ n. Stocks n t.entries t.waiting.lists (λ e. In e (map entry_of c.args.entries.items)) u.entries u.waiting.lists NoneLeft) is taken);
    }
