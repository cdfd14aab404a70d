use Rattle.std.proofs.Common.{map, ap, ◌∙◌}
use Rattle.std.specs.Prelude.{None}
use Rattle.std.specs.List.{fold}
use Rattle.pmg_commit.specs.Entries.{best_of_two}
use Rattle.pmg_commit.specs.Pieces.{entry_of}
use Rattle.pmg_lane.proofs.single.Single.reading_at.Goals as goal

pub returns : goal.returns
returns c = c.best_with.ensures ∙ ap (λ es. fold (best_of_two c.args.level c.args.key.now) None (map entry_of es)) c.deref.ensures.value
