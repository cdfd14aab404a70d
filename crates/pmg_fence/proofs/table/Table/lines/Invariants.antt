use Rattle.std.proofs.Common.{◌≡◌, drop}
use Rattle.pmg_fence.specs.Entering.{collected_locals}
use Rattle.pmg_fence.proofs.LineLemmas.{before, stands_with}
use Rattle.pmg_fence.proofs.table.Table.lines.Given as goal

abbrev pub invariant-loop-proc : goal.invariant-loop-proc
invariant-loop-proc l =
    collected_locals (stands_with l.self l.fence l.line) l.own ≡ before l.lines.items (collected_locals (stands_with l.self l.fence l.line) (drop l.proc-index l.own))
