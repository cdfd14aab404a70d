use Rattle.std.proofs.Common.{◌≡◌, ◌≤◌, drop, length}
use Rattle.pmg_node.proofs.TakingHeaders.{lists}
use Rattle.pmg_node.proofs.headers.is_complete.Given as goal

abbrev pub invariant-loop-proc : goal.invariant-loop-proc
invariant-loop-proc l =
    (lists l.registry l.header.node l.locals l.proc-items ≡ lists l.registry l.header.node (drop l.count l.locals) (drop l.proc-index l.proc-items))
    × (l.count ≤ length l.locals)
