use Rattle.pmg_node_parts.specs.Calls.{get_of}
use Rattle.pmg_desk.proofs.ReadLemmas.{reserved_due}
use Rattle.pmg_desk.proofs.reading.reserved_now.Goals as goal

pub returns : goal.returns
returns c =
    reserved_due c.args.registry.now c.args.id (get_of c.args.target.now c.args.key.now) c.requires.node c.requires.key c.requires.known c.requires.named c.reserved.result c.reserved.ensures
