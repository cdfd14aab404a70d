use Rattle.std.proofs.Common.{refl, subst, ◌∙◌, rules}
use Rattle.pmg_lane.specs.Entries.{IsRoomyTo, HasPlaces, HoldAlike}
use Rattle.pmg_lane.specs.Waiting.{HasRoomUnder, HaveReached, waiting_at}
use Rattle.pmg_lane.specs.declared.entries.Entries.{Entries}
use Rattle.pmg_lane.specs.declared.merged.Merged.{Merged}
use Rattle.pmg_lane.proofs.Settling.{alike_trans}
use Rattle.pmg_lane.proofs.Moving.{has_stays, stay_trans}
use Rattle.pmg_lane.proofs.Waits.{room_stays, stay_at}
use Rattle.pmg_lane.proofs.Reading.{level_with_joined}
use Rattle.pmg_lane.proofs.Merging.{roomier, roomy_both, roomy_level_joined}
use Rattle.pmg_lane.proofs.merged.Merged.make_rooms.Goals as goal

pub returns-in_err-make_places_of : goal.returns-in_err-make_places_of
returns-in_err-make_places_of c =
    let more = roomier c.args.self.now c.make_places_of.new.self c.args.self.now.waiting c.in_err-make_places_of.ensures.same (λ n. refl) c.requires in
    record { kept = more.0; same = more.1; room = search rules }

pub returns-in_err-make_rooms : goal.returns-in_err-make_rooms
returns-in_err-make_rooms c =
    let rooms = c.in_err-make_rooms.ensures in
    let a = c.make_rooms.new.entries in
    let alike = alike_trans c.args.self.now.entries c.make_places_of.new.self a c.in_ok-make_places_of.ensures.same rooms.alike in
    let more = roomier c.args.self.now a c.make_rooms.new.self alike rooms.same c.requires in
    record { kept = more.0; same = more.1; room = search rules }

-- the entries with the places of the other one and room for what waits there, and then with places where the late ones will be read
alike_both :
    (a b d e : Entries) → HoldAlike a b → HoldAlike b d → HoldAlike d e → HoldAlike a e
alike_both a b d e places rooms reached = alike_trans a d e (alike_trans a b d places rooms) reached

pub returns-in_err-make_reached_places : goal.returns-in_err-make_reached_places
returns-in_err-make_reached_places c =
    let a = c.make_reached_places.new.entries in
    let alike = alike_both c.args.self.now.entries c.make_places_of.new.self c.make_rooms.new.entries a c.in_ok-make_places_of.ensures.same
    c.in_ok-make_rooms.ensures.alike c.in_err-make_reached_places.ensures.alike in
    let more = roomier c.args.self.now a c.make_rooms.new.self alike c.in_ok-make_rooms.ensures.same c.requires in
    record { kept = more.0; same = more.1; room = search rules }

pub returns-in_err-make_rooms-2 : goal.returns-in_err-make_rooms-2
returns-in_err-make_rooms-2 c =
    let t = c.args.self.now in
    let a = c.make_reached_places.new.entries in
    let made = c.in_err-make_rooms-2.ensures in
    let alike = alike_both t.entries c.make_places_of.new.self c.make_rooms.new.entries a c.in_ok-make_places_of.ensures.same
    c.in_ok-make_rooms.ensures.alike c.in_ok-make_reached_places.ensures.alike in
    let u : Merged = record { taken = c.make_rooms-2.new.self; entries = a; waiting = c.make_rooms.new.self } in
    let more = roomy_both t u made.kept made.no_more alike c.in_ok-make_rooms.ensures.same made.apart c.requires in
    record { kept = more.0; same = more.1; room = search rules }

pub returns : goal.returns
returns c =
    let made = c.in_ok-make_rooms-2.ensures in
    let places = c.in_ok-make_places_of.ensures in
    let rooms = c.in_ok-make_rooms.ensures in
    let reached = c.in_ok-make_reached_places.ensures in
    let t = c.args.self.now in
    let u : Merged = record { taken = c.make_rooms-2.new.self; entries = c.make_reached_places.new.entries; waiting = c.make_rooms.new.self } in
    let alike = alike_both t.entries c.make_places_of.new.self c.make_rooms.new.entries u.entries places.same rooms.alike reached.alike in
    let more = roomy_both t u made.kept made.no_more alike rooms.same made.apart c.requires in
    let stay = stay_trans c.make_places_of.new.self c.make_rooms.new.entries u.entries rooms.places reached.stay in
    let o = c.args.other.now in
    let level = c.level_with_all-level in
    let is = level_with_joined t o level.result level.ensures.reached level.ensures.no_more ∙ roomy_level_joined t u made.kept made.no_more alike rooms.same o in
    record {
      kept = more.0;
      same = more.1;
      room = record {
        ranges = made.room;
        promoted = subst (λ n. IsRoomyTo n u.entries) is reached.promoted;
        reached = subst (HaveReached u.entries u.waiting.lists) is reached.reached;
        places = λ e i.
            subst (λ n. HasPlaces u.entries n e.number e.key) is
            (has_stays c.make_places_of.new.self u.entries level.result e.number e.key stay (places.places e i));
        waiting = λ n.
            subst (λ m. HasRoomUnder u.entries u.waiting.lists m n (waiting_at o.waiting.lists n)) is
            (room_stays c.make_rooms.new.entries u.entries u.waiting.lists u.waiting.lists level.result n (waiting_at o.waiting.lists n) (stay_at level.result c.make_rooms.new.entries u.entries reached.stay) (λ _. refl) (λ _ has. has) (rooms.room n));
      };
    }
