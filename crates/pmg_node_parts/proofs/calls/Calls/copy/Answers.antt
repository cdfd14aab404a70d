use Rattle.std.proofs.Common.{sym, subst, ◌∙◌}
use Rattle.pmg_node_parts.proofs.CopiedCalls.{IsCopied, copied_first, copied_next, copied_fresh, copied_all}
use Rattle.pmg_node_parts.proofs.calls.Calls.copy.Goals as goal

pub loop-proc-init : goal.loop-proc-init
loop-proc-init c =
    subst (IsCopied c.args.self.now c.new-copies.result) (sym (c.into_iter-proc-iterator.ensures.into_iter_gives ∙ c.iter-proc-items.ensures.rest))
    (copied_first c.args.self.now c.new-copies.result c.self.inside.rows.entries c.self.view_is c.iter-proc-items.ensures.ordered c.new-copies.ensures)

pub put-requires : goal.put-requires
put-requires c =
    copied_fresh c.args.self.now c.loop-proc.copies c.loop-proc.proc-iterator c.next.new.self c.in-Some.proc.now c.in_ok-copy.field-0 c.in-Some.call.now
    c.in-Some.ensures.steps c.in_ok-copy.ensures c.loop-proc.invariant

pub loop-proc-preserved : goal.loop-proc-preserved
loop-proc-preserved c =
    copied_next c.args.self.now c.loop-proc.copies c.put.new.self c.loop-proc.proc-iterator c.next.new.self c.in-Some.proc.now c.in_ok-copy.field-0 c.in-Some.call.now _
    c.in-Some.ensures.steps c.in_ok-copy.ensures c.in_ok-copy-2.ensures c.in_ok-put.ensures.ok c.loop-proc.invariant

pub returns : goal.returns
returns c = copied_all c.args.self.now c.loop-proc.copies c.loop-proc.proc-iterator c.in-None.ensures.steps.0 c.loop-proc.invariant
