use Rattle.std.proofs.Common.{ap, ◌∙◌}
use Rattle.pmg_commit.specs.Levels.{level}
use Rattle.pmg_commit.specs.Data.{level_at}
use Rattle.pmg_store.proofs.LaneData.{numbers_there, known_none, level-nothing}
use Rattle.pmg_store.proofs.store.Store.level.Goals as goal

pub returns-in-Some-clause-value : goal.returns-in-Some-clause-value
returns-in-Some-clause-value c =
    let t = c.in-Some.lane.now in
    c.level.ensures.value
    ∙ ap level (numbers_there c.self.inside.lanes.table c.args.proc.now t c.in-Some.ensures)
    ∙ ap (λ d. level_at d c.args.proc.now) c.self.view_is

pub returns-in-None-clause-value : goal.returns-in-None-clause-value
returns-in-None-clause-value c =
    level-nothing
    ∙ ap (λ k. level k.numbers) (known_none c.self.inside.lanes.table c.args.proc.now c.in-None.ensures)
    ∙ ap (λ d. level_at d c.args.proc.now) c.self.view_is
