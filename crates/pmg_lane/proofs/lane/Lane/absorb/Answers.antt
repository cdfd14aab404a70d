use Rattle.std.proofs.Common.{ap, ◌∙◌}
use Rattle.std.proofs.lemmas.Result.{on_ok_weaker}
use Rattle.pmg_commit.specs.Knowledge.{knowledge_of}
use Rattle.pmg_commit.specs.Cores.{core_of, join_cores}
use Rattle.pmg_lane.specs.Lanes.{core_in}
use Rattle.pmg_lane.proofs.lane.Lane.absorb.Goals as goal

pub returns-clause-ok : goal.returns-clause-ok
returns-clause-ok c =
    on_ok_weaker c.take_change.result (λ taken. taken ∙ ap (λ p. join_cores (core_in c.args.self.now) (core_of (knowledge_of p))) c.in_ok-copy.ensures) c.take_change.ensures.ok
