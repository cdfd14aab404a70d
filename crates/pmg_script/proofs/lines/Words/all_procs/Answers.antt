use Rattle.std.proofs.Common.{sym, ap, ◌∙◌}
use Rattle.std.proofs.lemmas.Result.{err_from_is_err_and}
use Rattle.pmg_script.specs.Fields.{read_proc_words, read_proc_list}
use Rattle.pmg_script.proofs.LineLemmas.{after, after_all, after_more, after_fault, less_left, procs_stepwise, proc_shrinks}
use Rattle.pmg_script.proofs.lines.Words.all_procs.Goals as goal

pub returns-in_err-proc : goal.returns-in_err-proc
returns-in_err-proc c =
    let err = err_from_is_err_and c.from_residual.result c.from_residual.ensures.1 in
    let some = sym c.is_at_end.ensures ∙ c.loop-self-test.true in
    rw (err.1, err.2) (after_fault read_proc_words read_proc_list procs_stepwise c.in_err-proc.field-0.0 c.loop-self.procs.items c.loop-self.self (read_proc_list c.args.self.now) some c.in_err-proc.ensures c.loop-self.invariant)

pub loop-self-smaller : goal.loop-self-smaller
loop-self-smaller c =
    less_left read_proc_words read_proc_list proc_shrinks c.loop-self.self c.in_ok-proc.proc c.proc.new.self (sym c.is_at_end.ensures ∙ c.loop-self-test.true) c.in_ok-proc.ensures

pub loop-self-preserved : goal.loop-self-preserved
loop-self-preserved c =
    let some = sym c.is_at_end.ensures ∙ c.loop-self-test.true in
    ap (λ items. after read_proc_words read_proc_list items c.proc.new.self) (c.in_ok-push.ensures.items)
    ∙ after_more read_proc_words read_proc_list procs_stepwise c.loop-self.procs.items c.loop-self.self c.in_ok-proc.proc c.proc.new.self some c.in_ok-proc.ensures ∙ c.loop-self.invariant

pub returns : goal.returns
returns c =
    sym c.loop-self.invariant ∙ after_all read_proc_words read_proc_list procs_stepwise c.loop-self.procs.items c.loop-self.self (sym c.is_at_end.ensures ∙ c.loop-self-test.false)
