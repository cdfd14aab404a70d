use Rattle.std.proofs.Common.{ap, ◌∙◌, ◌-◌, ◌+◌}
use Rattle.std.proofs.lemmas.Result.{err_from_is_err_and}
use Rattle.pmg_script.specs.Fields.{read_procs}
use Rattle.pmg_script.proofs.LineLemmas.{procs_after, procs_more, procs_fault, procs_done}
use Rattle.pmg_script.proofs.lines.Words.procs.Goals as goal

pub returns-in_err-proc : goal.returns-in_err-proc
returns-in_err-proc c =
    let err = err_from_is_err_and c.from_residual.result c.from_residual.ensures.1 in
    rw (err.1, err.2) (procs_fault c.in_err-proc.field-0.0 c.loop.procs.items c.args.count c.loop.counter c.loop.self (read_procs c.args.count c.args.self.now) c.loop-test.true c.in_err-proc.ensures c.loop.invariant)

pub loop-preserved : goal.loop-preserved
loop-preserved c =
    ap (λ items. procs_after items (c.args.count - (c.loop.counter + 1)) c.proc.new.self) c.in_ok-push.ensures.items
    ∙ procs_more c.loop.procs.items c.args.count c.loop.counter c.loop.self c.proc.new.self c.in_ok-proc.proc c.loop-test.true c.in_ok-proc.ensures
    ∙ c.loop.invariant

pub returns : goal.returns
returns c = procs_done c.loop.procs.items c.args.count c.loop.counter c.loop.self (read_procs c.args.count c.args.self.now) c.loop-test.false c.loop.invariant
