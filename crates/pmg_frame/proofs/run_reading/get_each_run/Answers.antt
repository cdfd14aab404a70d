use Rattle.std.proofs.Common.{[]}
use Rattle.std.proofs.lemmas.Result.{err_from_is_err_and}
use Rattle.pmg_frame.specs.RunReading.{repeated, read_run}
use Rattle.pmg_frame.proofs.RunLoops.{turn_more, turn_fails, turns_done}
use Rattle.pmg_frame.proofs.run_reading.get_each_run.Goals as goal

pub returns-in_err-procs : goal.returns-in_err-procs
returns-in_err-procs c =
    let err = err_from_is_err_and c.from_residual.result c.from_residual.ensures.1 in
    let total = repeated read_run c.args.count [] c.args.at.now in
    rw (err.1, err.2) (turn_fails read_run c.in_err-procs.field-0.0 c.args.count c.loop.counter c.loop.procs.items c.loop.at total c.loop-test.true c.in_err-procs.ensures.read c.loop.invariant.so_far)

pub loop-preserved : goal.loop-preserved
loop-preserved c =
    let total = repeated read_run c.args.count [] c.args.at.now in
    record {
      so_far = turn_more read_run c.args.count c.loop.counter c.loop.procs.items c.loop.at c.in_ok-procs.procs.items c.get_run.new.at total c.loop-test.true c.in_ok-procs.ensures.read c.loop.invariant.so_far;
      few = c.in_ok-procs.ensures.few;
    }

pub returns : goal.returns
returns c = turns_done read_run c.args.count c.loop.counter c.loop.procs.items c.loop.at (repeated read_run c.args.count [] c.args.at.now) c.loop-test.false c.loop.invariant.so_far
