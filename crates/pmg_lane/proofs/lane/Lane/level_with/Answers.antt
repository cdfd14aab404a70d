use Rattle.std.proofs.Common.{refl, sym, ap, ◌∙◌}
use Rattle.std.specs.FinSet as set
use Rattle.pmg_commit.specs.Levels.{level}
use Rattle.pmg_commit.specs.Knowledge.{union, knowledge_of}
use Rattle.pmg_lane.specs.Lanes.{known_by}
use Rattle.pmg_lane.proofs.LaneCores.{told_is}
use Rattle.pmg_lane.proofs.Merging.{told_numbers}
use Rattle.pmg_lane.proofs.lane.Lane.level_with.Goals as goal

pub returns-clause-value : goal.returns-clause-value
returns-clause-value c =
    let piece = c.args.piece.now in
    let k = known_by c.self.inside.track in
    c.level_with.ensures.value
    ∙ ap (λ s. level (set.union k.numbers s)) (sym (told_numbers c.from.result c.to.result piece.entries))
    ∙ ap (λ m. level (union k m).numbers) (told_is piece c.from.result c.to.result piece.entries c.from.ensures.value c.to.ensures.value refl)
    ∙ ap (λ t. level (union (known_by t) (knowledge_of piece)).numbers) c.self.view_is
