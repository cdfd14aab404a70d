use Rattle.std.proofs.Common.{inl, ◌∙◌}
use Rattle.std.proofs.lemmas.Map.Lookups.{exact_bytes}
use Rattle.pmg_lane.specs.Entries.{entry_under}
use Rattle.pmg_lane.proofs.Settling.{alike_itself}
use Rattle.pmg_lane.proofs.Moving.{places_itself}
use Rattle.pmg_lane.proofs.Listing.{found_in_rows}
use Rattle.pmg_lane.proofs.entries.Entries.make_read_places.Goals as goal

pub loop-key-init : goal.loop-key-init
loop-key-init c =
    let all = c.into_iter-key-iterator.ensures.into_iter_gives ∙ c.iter-key-items.ensures.rest in
    let found = found_in_rows exact_bytes entry_under c.into_iter-key-iterator.result c.args.reads.now.entries all in
    record { same = alike_itself c.args.self.now; stay = places_itself c.args.self.now; places = λ e h. inl (found e.key e h) }
