use Rattle.std.proofs.Common.{map, ap, ◌∙◌}
use Rattle.std.specs.Option.{option_map}
use Rattle.std.specs.List.{fold}
use Rattle.pmg_commit.specs.Entries.{best_of_two}
use Rattle.pmg_commit.specs.Pieces.{entry_of}
use Rattle.pmg_lane.specs.Readings.{seen_entry}
use Rattle.pmg_lane.proofs.Singles.{read_of}
use Rattle.pmg_lane.proofs.track.Track.read_with.Goals as goal

pub returns : goal.returns
returns c =
    let key = c.args.key.now in
    let n = c.level_with-level.result in
    let es = map entry_of c.args.entries.now in
    c.seen_value.ensures key
    ∙ read_of c.args.self.now c.args.from c.args.to n key es (option_map (seen_entry key) c.best_with.result) c.requires.kept c.level_with-level.ensures.value
    (c.best_with.ensures ∙ ap (λ o. fold (best_of_two n key) o es) c.reading_at.ensures)
