use Rattle.std.proofs.Common.{◌≡◌, drop, None, is_some}
use Rattle.pmg_fence.specs.Entering.{collected_locals}
use Rattle.pmg_fence.proofs.LineLemmas.{stands_with}
use Rattle.pmg_fence.proofs.table.Table.are_told.Given as goal

abbrev pub invariant-loop-proc : goal.invariant-loop-proc
invariant-loop-proc l = is_some (collected_locals (stands_with l.self l.fence None) l.own) ≡ is_some (collected_locals (stands_with l.self l.fence None) (drop l.proc-index l.own))
