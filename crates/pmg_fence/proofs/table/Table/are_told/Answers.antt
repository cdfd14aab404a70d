use Rattle.std.proofs.Common.{sym, ◌∙◌, None}
use Rattle.pmg_fence.proofs.LineLemmas.{stands_with, told_missing}
use Rattle.pmg_fence.proofs.table.Table.are_told.Goals as goal

pub returns-in_default : goal.returns-in_default
returns-in_default c =
    told_missing (stands_with c.args.self.now c.args.fence None) c.args.own.now c.loop-proc.proc-index c.proc-item.result
    c.loop-proc.invariant c.loop-proc-test.true c.proc-item.is (sym c.entry.ensures ∙ c.in_default.is)
