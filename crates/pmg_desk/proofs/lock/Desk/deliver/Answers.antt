use Rattle.pmg_node_model.specs.Acts.{Act}
use Rattle.pmg_node.specs.Acting.{reply_as}
use Rattle.pmg_node.specs.Replies.{delivery_reply}
use Rattle.pmg_desk.proofs.ClientLemmas.{same_given}
use Rattle.pmg_desk.proofs.KindLemmas.{answer_kind}
use Rattle.pmg_desk.proofs.lock.Desk.deliver.Goals as goal

pub delivery_by-requires : goal.delivery_by-requires
delivery_by-requires g c = answer_kind _ _ (Act.deliver c.args.frame) c.act.result c.act.ensures

pub returns : goal.returns
returns g c = same_given delivery_reply reply_as _ _ (Act.deliver c.args.frame) c.delivery_by.result c.act.result c.delivery_by.ensures c.act.ensures
