use Rattle.std.proofs.Common.{subst}
use Rattle.pmg_node_model.specs.Acts.{Act, Reply, Request}
use Rattle.pmg_node.specs.Servers.{reply_in}
use Rattle.pmg_desk.specs.Telling.{WasReplied}
use Rattle.pmg_desk.proofs.lock.Desk.delete_set.Goals as goal

pub returns : goal.returns
returns g c =
    let place = c.args.self.now.place in
    let changed = c.change_sets in
    λ event.
    subst (λ (q : Request). WasReplied place.registry place.node (Act.request q) (reply_in Reply.defined changed.result)) (λ i. Request.delete (c.in_ok-copy.ensures i))
    (changed.ensures event)
