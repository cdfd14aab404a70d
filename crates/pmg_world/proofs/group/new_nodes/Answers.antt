use Rattle.std.proofs.Common.{◌+◌, refl, sym, subst, ◌∙◌}
use Rattle.pmg_node.specs.Opening.{new_server}
use Rattle.pmg_world.specs.Keeping.{AreNew}
use Rattle.pmg_world.proofs.StartLemmas.{more_new}
use Rattle.pmg_world.proofs.group.new_nodes.Goals as goal

pub loop-index-preserved : goal.loop-index-preserved
loop-index-preserved c =
    subst (AreNew c.args.registry.now (c.loop-index.index + 1)) (sym c.in_ok-push.ensures.items)
    (more_new c.args.registry.now c.loop-index.index (c.loop-index.index + 1) c.loop-index.nodes.items c.in_ok-new.field-0 c.loop-index.invariant
    (c.in_ok-new.ensures ∙ (λ i. new_server (c.in_ok-copy.ensures i) (c.from_checked-node.ensures i))) refl)
