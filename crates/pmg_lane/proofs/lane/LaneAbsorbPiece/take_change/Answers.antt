use Rattle.std.proofs.Common.{ap, ◌∙◌}
use Rattle.std.proofs.lemmas.Result.{on_ok_weaker, on_err_weaker}
use Rattle.pmg_commit.specs.Knowledge.{union, core, knowledge_of}
use Rattle.pmg_commit.specs.Cores.{core_of, join_cores, same_core}
use Rattle.pmg_lane.specs.Lanes.{core_in, known_by}
use Rattle.pmg_lane.proofs.LaneCores.{joined, told_is}
use Rattle.pmg_lane.proofs.lane.LaneAbsorbPiece.take_change.Goals as goal

pub returns-clause-ok : goal.returns-clause-ok
returns-clause-ok c =
    let piece = c.args.piece in
    let old = known_by c.self.inside.track in
    let is = c.into_parts-from.ensures.value in
    let told = told_is piece _ _ _ (λ i. (is i).from) (λ i. (is i).to) (λ i. (is i).entries) in
    on_ok_weaker c.absorb.result
    (λ taken. joined old (knowledge_of piece) (known_by c.absorb.new.self) (taken ∙ ap (λ k. core (union old k)) told)
    ∙ ap (λ t. join_cores (core_in t) (core_of (knowledge_of piece))) c.self.view_is)
    c.absorb.ensures.taken

pub returns-clause-err : goal.returns-clause-err
returns-clause-err c = on_err_weaker c.absorb.result (λ same. same_core (core_in c.absorb.new.self) (core_in c.self.inside.track) same ∙ ap core_in c.self.view_is) c.absorb.ensures.same
