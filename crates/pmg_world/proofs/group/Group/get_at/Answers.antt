use Rattle.std.proofs.Common.{refl, ◌∙◌}
use Rattle.pmg_world.proofs.GroupLemmas.{set_as_was}
use Rattle.pmg_world.proofs.group.Group.get_at.Goals as goal

pub returns-clause-memory : goal.returns-clause-memory
returns-clause-memory c = λ e.
    let nodes = set_as_was c.args.self.now.nodes.items c.args.index c.index_mut.result.now (c.get.ensures.memory e ∙ c.index_mut.ensures.value) in
    record { jobs = refl; nodes = nodes; caches = refl; sent = c.get.ensures.unsent e }
