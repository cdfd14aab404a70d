use Rattle.std.proofs.Common.{ap, ◌∙◌}
use Rattle.std.specs.List.{fold}
use Rattle.pmg_commit.specs.Entries.{best_of_two}
use Rattle.pmg_lane.specs.Waiting.{waiting_list}
use Rattle.pmg_lane.proofs.merged.Merged.reading_at.Goals as goal

pub returns : goal.returns
returns c =
    c.reading_at.ensures ∙ ap (λ o. fold (best_of_two c.args.level c.args.key.now) o (waiting_list c.args.self.now.waiting.lists)) c.reading_at-kept.ensures
