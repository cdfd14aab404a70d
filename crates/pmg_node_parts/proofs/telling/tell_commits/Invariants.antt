use Rattle.std.proofs.Common.{◌≡◌, ◌++◌, take}
use Rattle.pmg_node_parts.specs.Telling.{pieces_by}
use Rattle.pmg_node_parts.proofs.telling.tell_commits.Given as goal

abbrev pub invariant-loop-local : goal.invariant-loop-local
invariant-loop-local l = l.dues.items ≡ l.fn.dues.items ++ pieces_by l.fn.node (take l.local-index l.local-items)
