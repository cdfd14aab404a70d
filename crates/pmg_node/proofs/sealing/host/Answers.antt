use Rattle.pmg_pset.proofs.SetLemmas.{host_is}
use Rattle.pmg_node.proofs.sealing.host.Goals as goal

pub returns : goal.returns
returns c = host_is c.of_host.result c.of_host.ensures.nspace c.of_host.ensures.rank
