use Rattle.std.proofs.Common.{refl, subst, ◌∙◌, rules}
use Rattle.pmg_lane.specs.Entries.{IsRoomyTo}
use Rattle.pmg_lane.specs.Waiting.{HasRoomUnder, HaveReached, wait_number}
use Rattle.pmg_lane.specs.declared.merged.Merged.{Merged}
use Rattle.pmg_lane.proofs.Settling.{alike_trans}
use Rattle.pmg_lane.proofs.Waits.{room_stays, stay_at}
use Rattle.pmg_lane.proofs.Reading.{level_with_more}
use Rattle.pmg_lane.proofs.Merging.{roomier, roomy_both, roomy_level_with}
use Rattle.pmg_lane.proofs.merged.Merged.make_room.Goals as goal

pub returns-in_err-make_room : goal.returns-in_err-make_room
returns-in_err-make_room c =
    let some = c.in_err-make_room.ensures in
    let more = roomier c.args.self.now c.make_room.new.entries c.make_room.new.self some.alike some.same c.requires in
    record { kept = more.0; same = more.1; room = search rules }

pub returns-in_err-make_reached_places : goal.returns-in_err-make_reached_places
returns-in_err-make_reached_places c =
    let a = c.make_reached_places.new.entries in
    let alike = alike_trans c.args.self.now.entries c.make_room.new.entries a c.in_ok-make_room.ensures.alike c.in_err-make_reached_places.ensures.alike in
    let more = roomier c.args.self.now a c.make_room.new.self alike c.in_ok-make_room.ensures.same c.requires in
    record { kept = more.0; same = more.1; room = search rules }

pub returns-in_err-make_room-2 : goal.returns-in_err-make_room-2
returns-in_err-make_room-2 c =
    let t = c.args.self.now in
    let a = c.make_reached_places.new.entries in
    let made = c.in_err-make_room-2.ensures in
    let alike = alike_trans t.entries c.make_room.new.entries a c.in_ok-make_room.ensures.alike c.in_ok-make_reached_places.ensures.alike in
    let u : Merged = record { taken = c.make_room-2.new.self; entries = a; waiting = c.make_room.new.self } in
    let more = roomy_both t u made.kept made.no_more alike c.in_ok-make_room.ensures.same made.apart c.requires in
    record { kept = more.0; same = more.1; room = search rules }

pub returns : goal.returns
returns c =
    let made = c.in_ok-make_room-2.ensures in
    let room = c.in_ok-make_room.ensures in
    let reached = c.in_ok-make_reached_places.ensures in
    let t = c.args.self.now in
    let u : Merged = record { taken = c.make_room-2.new.self; entries = c.make_reached_places.new.entries; waiting = c.make_room.new.self } in
    let alike = alike_trans t.entries c.make_room.new.entries u.entries room.alike reached.alike in
    let more = roomy_both t u made.kept made.no_more alike room.same made.apart c.requires in
    let es = c.args.entries.now in
    let is =
    level_with_more t c.args.from c.args.to c.level_with-level.result c.level_with-level.ensures.reached c.level_with-level.ensures.no_more
    ∙ roomy_level_with t u made.kept made.no_more alike room.same c.args.from c.args.to in
    record {
      kept = more.0;
      same = more.1;
      room = record {
        range = made.room;
        promoted = subst (λ n. IsRoomyTo n u.entries) is reached.promoted;
        reached = subst (HaveReached u.entries u.waiting.lists) is reached.reached;
        places = subst (λ n. HasRoomUnder u.entries u.waiting.lists n (wait_number c.args.from es) es) is
            (subst (λ m. HasRoomUnder u.entries u.waiting.lists c.level_with-level.result m es) c.wait_number-number.ensures.number
            (room_stays c.make_room.new.entries u.entries u.waiting.lists u.waiting.lists c.level_with-level.result c.wait_number-number.result es (stay_at c.level_with-level.result c.make_room.new.entries u.entries reached.stay) (λ _. refl) (λ _ has. has) room.room));
      };
    }
