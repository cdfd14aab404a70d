use Rattle.std.proofs.Common.{◌≡◌, drop}
use Rattle.std.specs.FinMap as finite
use Rattle.pmg_node_parts.specs.Marking.{zeros}
use Rattle.pmg_node.proofs.opening.zero_marks.Given as goal

abbrev pub invariant-loop-proc : goal.invariant-loop-proc
invariant-loop-proc l = zeros l.marks (drop l.proc-index l.procs) l.nodes ≡ zeros finite.empty l.procs l.nodes
