use Rattle.pmg_node_model.specs.Acts.{Act, Reply}
use Rattle.pmg_node.specs.Acting.{reply_as, request_of}
use Rattle.pmg_desk.proofs.ClientLemmas.{same_given}
use Rattle.pmg_desk.proofs.KindLemmas.{answer_kind, change_kind}
use Rattle.pmg_desk.proofs.lock.Desk.change_sets.Goals as goal

pub defined_by-requires : goal.defined_by-requires
defined_by-requires g c =
    change_kind (request_of c.args.request) c.act.result c.requires (answer_kind _ _ (Act.request (request_of c.args.request)) c.act.result c.act.ensures)

pub returns : goal.returns
returns g c = same_given Reply.defined reply_as _ _ (Act.request (request_of c.args.request)) c.defined_by.result c.act.result c.defined_by.ensures c.act.ensures
