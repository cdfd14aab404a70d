use Rattle.std.proofs.lemmas.Result.{on_ok_weaker}
use Rattle.pmg_lane.proofs.Waits.{reached_stay, stay_at}
use Rattle.pmg_lane.proofs.waiting.Waiting.make_reached_places.Goals as goal

pub returns-clause-reached : goal.returns-clause-reached
returns-clause-reached c =
    let a = c.make_listed_places.new.entries in
    let b = c.make_promoted_places.new.self in
    on_ok_weaker c.make_promoted_places.result
    (λ _. reached_stay a b c.args.self.now.lists c.args.level (stay_at c.args.level a b c.make_promoted_places.ensures.stay) c.in_ok-make_listed_places.ensures.places)
    c.make_promoted_places.ensures.room
