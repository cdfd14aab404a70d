use Rattle.std.proofs.Common.{◌≡◌, ◌<◌, map}
use Rattle.pmg_value.specs.Lists.{Each}
use Rattle.pmg_node_parts.specs.Telling.{piece_by}
use Rattle.pmg_node_parts.specs.Owns.{sealed_of}
use Rattle.pmg_node_parts.proofs.telling.tell_waiting.Given as goal

abbrev pub invariant-loop-node : goal.invariant-loop-node
invariant-loop-node l = record {
  due : l.dues.items ≡ map (λ e. piece_by (sealed_of l.own) l.proc e.0 e.1) l.yielded;
  below : Each (λ e. e.1 < (sealed_of l.own l.proc).level) l.node-iterator.rest.items;
}
