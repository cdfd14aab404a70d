use Rattle.std.proofs.Common.{map, sym, ap, ◌∙◌}
use Rattle.pmg_commit.specs.Levels.{level}
use Rattle.pmg_commit.specs.Pieces.{entry_of}
use Rattle.pmg_lane.proofs.Merging.{told_numbers}
use Rattle.pmg_lane.proofs.single.Single.level.Goals as goal

pub returns-clause-value : goal.returns-clause-value
returns-clause-value c =
    let s = c.args.self.now in
    c.level_alone.ensures.value ∙ ap level (sym (told_numbers s.from s.to (map entry_of s.entries.items)))
