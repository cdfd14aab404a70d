use Rattle.std.proofs.Common.{[]}
use Rattle.std.proofs.lemmas.Result.{err_from_is_err_and}
use Rattle.pmg_frame.specs.RunReading.{repeated, read_local_run}
use Rattle.pmg_frame.proofs.RunLoops.{turn_more, turn_fails, turns_done}
use Rattle.pmg_frame.proofs.local_run_reading.get_each_run.Goals as goal

pub returns-in_err-locals : goal.returns-in_err-locals
returns-in_err-locals c =
    let err = err_from_is_err_and c.from_residual.result c.from_residual.ensures.1 in
    let step = read_local_run c.args.name.now in
    let total = repeated step c.args.count [] c.args.at.now in
    rw (err.1, err.2) (turn_fails step c.in_err-locals.field-0.0 c.args.count c.loop.counter c.loop.locals.items c.loop.at total c.loop-test.true c.in_err-locals.ensures c.loop.invariant)

pub loop-preserved : goal.loop-preserved
loop-preserved c =
    let step = read_local_run c.args.name.now in
    let total = repeated step c.args.count [] c.args.at.now in
    turn_more step c.args.count c.loop.counter c.loop.locals.items c.loop.at c.in_ok-locals.locals.items c.get_local_run.new.at total c.loop-test.true c.in_ok-locals.ensures c.loop.invariant

pub returns : goal.returns
returns c =
    let step = read_local_run c.args.name.now in
    turns_done step c.args.count c.loop.counter c.loop.locals.items c.loop.at (repeated step c.args.count [] c.args.at.now) c.loop-test.false c.loop.invariant
