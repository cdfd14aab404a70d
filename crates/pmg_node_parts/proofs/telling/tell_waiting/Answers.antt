use Rattle.std.proofs.Common.{◌∙◌}
use Rattle.pmg_dmodex.specs.Levels.{levels_of}
use Rattle.pmg_node_parts.specs.Owns.{sealed_of}
use Rattle.pmg_node_parts.proofs.PublishLemmas.{below_due}
use Rattle.pmg_node_parts.proofs.telling.tell_waiting.Goals as goal

pub loop-node-init : goal.loop-node-init
loop-node-init c = record {
  due = c.new-dues.ensures.items;
  below = below_due c.level.result (sealed_of c.args.own.now c.args.proc.now).level (levels_of c.args.held.now.held c.args.proc.now) c.into_iter-node-iterator.result.rest.items
      (c.into_iter-node-iterator.ensures.into_iter_gives.0 ∙ c.in_ok-items.ensures) c.level.ensures.value;
}
