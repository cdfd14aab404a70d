use Rattle.std.proofs.Common.{ap, ◌∙◌}
use Rattle.pmg_commit.specs.Knowledge.{core, knowledge_of}
use Rattle.pmg_commit.specs.Cores.{core_of, same_core}
use Rattle.pmg_lane.specs.Lanes.{core_in}
use Rattle.pmg_lane.proofs.LaneCores.{told_is}
use Rattle.pmg_lane.proofs.lane.LaneAbsorbPiece.of_change.Goals as goal

pub returns : goal.returns
returns c =
    let piece = c.args.piece in
    let is = c.into_parts-from.ensures.value in
    let told = told_is piece _ _ _ (λ i. (is i).from) (λ i. (is i).to) (λ i. (is i).entries) in
    same_core (core_in c.in_ok-of.field-0) (core_of (knowledge_of piece)) (c.in_ok-of.ensures.taken ∙ ap core told)
