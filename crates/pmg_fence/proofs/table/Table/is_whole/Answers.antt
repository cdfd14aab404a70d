use Rattle.std.proofs.Common.{sym, ap, ◌∙◌, None, is_some}
use Rattle.pmg_fence.proofs.LineLemmas.{rest, stands_with, own_at, whole_stopped}
use Rattle.pmg_fence.proofs.table.Table.is_whole.Goals as goal

pub returns-in_default : goal.returns-in_default
returns-in_default c =
    let s = stands_with c.args.self.now c.args.fence None in
    let own = own_at c.args.self.now in
    whole_stopped s own c.participants-proc-items.result.now c.loop-proc.proc-index c.proc-item.result c.loop-proc.invariant c.loop-proc-test.true c.proc-item.is
    (sym c.is_own.ensures ∙ c.if-not-is_own.false) (sym c.entry.ensures ∙ c.in_default.is)
    ∙ ap (λ ps. is_some (rest s own ps)) c.participants-proc-items.ensures.value
