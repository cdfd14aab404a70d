use Rattle.std.proofs.Common.{length, sym, subst}
use Rattle.pmg_jobinfo.specs.Jobs.{Jobs, AreJobs}
use Rattle.pmg_world.specs.Keeping.{AreNew, Represents}
use Rattle.pmg_group_model.specs.Worlds.{start}
use Rattle.pmg_world.specs.declared.group.Group.{Group}
use Rattle.pmg_world.proofs.StartLemmas.{starts}
use Rattle.pmg_world.proofs.group.Group.new.Goals as goal

pub returns-clause-stands : goal.returns-clause-stands
returns-clause-stands c =
    let g : Group = record { registry = c.in_ok-copy.field-0; nodes = c.in_ok-new_nodes.field-0; caches = c.new.result; sent = c.new-2.result } in
    let same = c.in_ok-copy.ensures in
    let are = subst AreJobs (sym same) c.new_nodes.ensures.jobs in
    subst (λ (j : Jobs). Represents g (start j)) same
    (starts g are (subst (λ (j : Jobs). AreNew j (length j.nodes) g.nodes.items) (sym same) c.in_ok-new_nodes.ensures.new) c.new.ensures c.new-2.ensures.items)
