use Rattle.std.proofs.Common.{sym, ap, ◌∙◌}
use Rattle.std.specs.Option.{option_map, option_to_list}
use Rattle.std.specs.List.{fold}
use Rattle.pmg_commit.specs.Entries.{best_of_two}
use Rattle.pmg_lane.specs.Entries.{late_entry}
use Rattle.pmg_lane.specs.Readings.{seen_entry}
use Rattle.pmg_lane.proofs.entries.better_late.Goals as goal

pub returns : goal.returns
returns c =
    c.better.ensures
    ∙ ap (λ o. fold (best_of_two c.args.level c.args.key.now) (option_map (seen_entry c.args.key.now) c.args.best) (option_to_list (option_map (late_entry c.args.place.now) o)))
    (sym c.in-Some.is)
