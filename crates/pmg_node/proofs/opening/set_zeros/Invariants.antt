use Rattle.std.proofs.Common.{◌≡◌, drop}
use Rattle.pmg_node_parts.specs.Marking.{node_zeros}
use Rattle.pmg_node.proofs.opening.set_zeros.Given as goal

abbrev pub invariant-loop-node : goal.invariant-loop-node
invariant-loop-node l = node_zeros l.marks l.proc (drop l.node-index l.nodes) ≡ node_zeros l.fn.marks l.proc l.nodes
