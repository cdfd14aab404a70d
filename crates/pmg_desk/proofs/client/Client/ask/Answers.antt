use Rattle.pmg_node_model.specs.Acts.{Act, Request}
use Rattle.pmg_desk.proofs.KindLemmas.{told_kind}
use Rattle.pmg_desk.proofs.client.Client.ask.Goals as goal

pub asked_by-requires : goal.asked_by-requires
asked_by-requires g c = told_kind _ _ (Act.request (Request.ask _ _ _)) c.request.result c.request.ensures.told
