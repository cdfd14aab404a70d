use Rattle.pmg_node_parts.proofs.CopiedCalls.{IsCopied}
use Rattle.pmg_node_parts.proofs.calls.Calls.copy.Given as goal

abbrev pub invariant-loop-proc : goal.invariant-loop-proc
invariant-loop-proc l = IsCopied l.self l.copies l.proc-iterator
