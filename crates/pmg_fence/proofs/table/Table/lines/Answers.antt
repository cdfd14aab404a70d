use Rattle.std.proofs.Common.{sym, ap, ◌∙◌, ◌++◌, ◌∷◌, []}
use Rattle.pmg_fence.specs.Entering.{collected_locals}
use Rattle.pmg_fence.proofs.LineLemmas.{before, before_none, stands_with, line_added, line_missing}
use Rattle.pmg_fence.proofs.table.Table.lines.Goals as goal

pub loop-proc-init : goal.loop-proc-init
loop-proc-init c =
    let left = collected_locals (stands_with c.args.self.now c.args.fence c.args.line) c.args.own.now in
    before_none left ∙ ap (λ ls. before ls left) (sym c.new-lines.ensures.items)

pub returns-in_default : goal.returns-in_default
returns-in_default c =
    line_missing (stands_with c.args.self.now c.args.fence c.args.line) c.args.own.now c.loop-proc.lines.items c.loop-proc.proc-index c.proc-item.result
    c.loop-proc.invariant c.loop-proc-test.true c.proc-item.is (sym c.entry_now.ensures ∙ c.in_default.is)

pub loop-proc-preserved : goal.loop-proc-preserved
loop-proc-preserved c =
    line_added (stands_with c.args.self.now c.args.fence c.args.line) c.args.own.now c.loop-proc.lines.items c.loop-proc.proc-index c.proc-item.result c.push.new.self.items c.in-Some.entry
    c.loop-proc.invariant c.loop-proc-test.true c.proc-item.is (sym c.entry_now.ensures ∙ c.in-Some.is)
    (c.in_ok-push.ensures.items ∙ ap (λ l. c.loop-proc.lines.items ++ l ∷ []) c.in_ok-local.ensures)
