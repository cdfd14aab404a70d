use Rattle.std.proofs.Common.{map, ap, ◌∙◌}
use Rattle.pmg_commit.specs.Pieces.{entry_of}
use Rattle.pmg_commit.specs.Knowledge.{union, read, knowledge_of}
use Rattle.pmg_lane.specs.Lanes.{known_by}
use Rattle.pmg_lane.proofs.LaneCores.{told_is}
use Rattle.pmg_lane.proofs.lane.Lane.read_with.Goals as goal

pub returns : goal.returns
returns c =
    let piece = c.args.piece.now in
    let k = known_by c.self.inside.track in
    let es = map entry_of c.entries.result.now in
    c.read_with.ensures
    ∙ ap (λ m. read (union k m) c.args.key.now) (told_is piece c.from.result c.to.result es c.from.ensures.value c.to.ensures.value c.entries.ensures)
    ∙ ap (λ t. read (union (known_by t) (knowledge_of piece)) c.args.key.now) c.self.view_is
