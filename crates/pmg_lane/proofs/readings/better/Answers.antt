use Rattle.std.proofs.Common.{sym, ap, ◌∙◌}
use Rattle.std.specs.Option.{option_map}
use Rattle.pmg_commit.specs.Entries.{best_of_two}
use Rattle.pmg_lane.specs.Readings.{seen_entry}
use Rattle.pmg_lane.proofs.Reading.{next_seen}
use Rattle.pmg_lane.proofs.readings.better.Goals as goal

pub returns-in-Some : goal.returns-in-Some
returns-in-Some c =
    let key = c.args.key.now in
    let e = seen_entry c.args.own_key.now c.args.entry in
    next_seen c.args.level key (seen_entry key c.in-Some.before) e (seen_entry key c.later_of.result)
    (sym c.is_readable.ensures ∙ c.if-not-is_readable.false) (c.later_of.ensures key)
    ∙ ap (λ o. best_of_two c.args.level key (option_map (seen_entry key) o) e) (sym c.in-Some.is)
