use Rattle.std.proofs.Common.{◌≡◌, drop, None, is_some}
use Rattle.pmg_fence.proofs.LineLemmas.{rest, stands_with, own_at}
use Rattle.pmg_fence.proofs.table.Table.is_whole.Given as goal

abbrev pub invariant-loop-proc : goal.invariant-loop-proc
invariant-loop-proc l =
    is_some (rest (stands_with l.self l.fence None) (own_at l.self) l.proc-items) ≡ is_some (rest (stands_with l.self l.fence None) (own_at l.self) (drop l.proc-index l.proc-items))
