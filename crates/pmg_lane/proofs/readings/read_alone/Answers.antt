use Rattle.std.proofs.Common.{map, ◌∙◌}
use Rattle.std.specs.Option.{option_map}
use Rattle.pmg_commit.specs.Pieces.{entry_of}
use Rattle.pmg_lane.specs.Readings.{seen_entry}
use Rattle.pmg_lane.proofs.Reading.{read_alone}
use Rattle.pmg_lane.proofs.readings.read_alone.Goals as goal

pub returns : goal.returns
returns c =
    let key = c.args.key.now in
    c.seen_value.ensures key
    ∙ read_alone c.args.from c.args.to c.level_alone.result key (map entry_of c.args.entries.now) (option_map (seen_entry key) c.best_with.result) c.level_alone.ensures.value c.best_with.ensures
