use Rattle.pmg_node_model.specs.Acts.{Act, Request}
use Rattle.pmg_desk.proofs.KindLemmas.{told_kind}
use Rattle.pmg_desk.proofs.client.Client.end.Goals as goal

pub ended_by-requires : goal.ended_by-requires
ended_by-requires g c = told_kind _ _ (Act.request (Request.terminate _)) c.request.result c.request.ensures.told
