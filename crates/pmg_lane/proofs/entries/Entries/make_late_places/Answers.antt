use Rattle.std.proofs.Common.{inl, ◌∙◌}
use Rattle.pmg_lane.specs.Entries.{late_entry}
use Rattle.pmg_lane.proofs.Settling.{exact_late, alike_itself}
use Rattle.pmg_lane.proofs.Moving.{places_itself}
use Rattle.pmg_lane.proofs.Listing.{found_in_rows}
use Rattle.pmg_lane.proofs.entries.Entries.make_late_places.Goals as goal

pub loop-place-init : goal.loop-place-init
loop-place-init c =
    let all = c.into_iter-place-iterator.ensures.into_iter_gives ∙ c.iter-place-items.ensures.rest in
    let found = found_in_rows exact_late late_entry c.into_iter-place-iterator.result c.args.late.now.entries all in
    record { same = alike_itself c.args.self.now; stay = places_itself c.args.self.now; places = λ e h. inl (found (e.number, e.key) e h) }
