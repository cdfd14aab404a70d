use Rattle.std.proofs.Common.{inl, inr, sym, subst, map}
use Rattle.pmg_value.specs.Lists.{In}
use Rattle.pmg_commit.specs.Pieces.{entry_of}
use Rattle.pmg_lane.specs.Waiting.{HasRoomUnder, IsWaiting}
use Rattle.pmg_lane.proofs.Settling.{late_trans}
use Rattle.pmg_lane.proofs.Waits.{stocks_next, left_numbered, left_is, waits_left, room_rests, stocks_all}
use Rattle.pmg_lane.proofs.waiting.Waiting.put_others.Goals as goal

pub put-requires-clause-room : goal.put-requires-clause-room
put-requires-clause-room c =
    subst (HasRoomUnder c.loop-number.entries c.loop-number.self.lists c.args.level c.in-Some.number) c.in-Some.ensures.there (c.loop-number.invariant.room c.in-Some.number)

pub put-requires-clause-lowest : goal.put-requires-clause-lowest
put-requires-clause-lowest c e i = c.loop-number.invariant.lowest c.in-Some.number e (subst (In e) (sym c.in-Some.ensures.there) i)

pub loop-number-preserved : goal.loop-number-preserved
loop-number-preserved c =
    let p = c.in-Some.ensures in
    let n = c.in-Some.number in
    let level = c.args.level in
    let a = c.loop-number.entries in
    let b = c.put.new.entries in
    let lists = c.loop-number.self.lists in
    let others = c.put.new.self.lists in
    let left = c.loop-number.other.lists in
    let rest = c.pop.new.self.lists in
    let inv = c.loop-number.invariant in
    let put = c.put.ensures in
    record {
      stocks = stocks_next level c.args.entries.now a b c.args.self.now.lists lists others (IsWaiting c.args.other.lists) (IsWaiting left)
          (λ e. In e (map entry_of c.in-Some.list.items)) (IsWaiting rest) inv.stocks put.stocks
          (λ e i. inv.was e (n, subst (λ there. In e (map entry_of there)) (sym p.there) i))
          (λ e w. elim (waits_left left rest n p.taken e w) [ inl here ↦ inl (subst (λ there. In e (map entry_of there)) p.there here) | inr more ↦ inr more ]);
      within = put.within;
      late = late_trans level c.args.entries.now a b inv.late put.late;
      numbered = put.numbered;
      lowest = left_numbered left rest n p.taken inv.lowest;
      past = λ past. put.past (inv.past past);
      room = room_rests a b lists others left rest level n p.taken put.places put.others put.stay inv.room;
      was = λ e w. inv.was e (left_is left rest n p.taken e w);
    }

pub returns-clause-stocks : goal.returns-clause-stocks
returns-clause-stocks c =
    stocks_all c.args.level c.args.entries.now c.loop-number.entries c.args.self.now.lists c.loop-number.self.lists c.loop-number.other.lists (IsWaiting c.args.other.lists)
    c.loop-number.invariant.stocks c.in_default.ensures.none
