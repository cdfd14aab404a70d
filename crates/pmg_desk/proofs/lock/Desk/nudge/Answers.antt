use Rattle.pmg_node_model.specs.Acts.{Act, Reply, Request}
use Rattle.pmg_node.specs.Acting.{reply_as}
use Rattle.pmg_desk.proofs.ClientLemmas.{same_given}
use Rattle.pmg_desk.proofs.KindLemmas.{answer_kind}
use Rattle.pmg_desk.proofs.lock.Desk.nudge.Goals as goal

pub nudged_by-requires : goal.nudged_by-requires
nudged_by-requires g c = answer_kind _ _ (Act.request Request.nudge) c.act.result c.act.ensures

pub returns : goal.returns
returns g c = same_given (λ (_ : Unit {0}). Reply.done) reply_as _ _ (Act.request Request.nudge) c.nudged_by.result c.act.result c.nudged_by.ensures c.act.ensures
