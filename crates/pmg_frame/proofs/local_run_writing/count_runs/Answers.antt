use Rattle.std.proofs.Common.{length, arith, ap}
use Rattle.pmg_frame.specs.Runs.{local_ranks}
use Rattle.pmg_frame.proofs.RunEnds.{run_counted, none_behind}
use Rattle.pmg_frame.proofs.local_run_writing.count_runs.Goals as goal

pub loop-start-preserved : goal.loop-start-preserved
loop-start-preserved c =
    let e = c.run_end-start.ensures in
    let before = c.loop-start.invariant in
    let counted = run_counted local_ranks c.args.locals.now c.loop-start.start c.run_end-start.result e.after e.within e.run in
    record { so_far = omega (arith, before.so_far, counted); bound = omega (arith, before.bound, e.after); within = e.within }

pub returns-clause-value : goal.returns-clause-value
returns-clause-value c =
    let none = ap length (none_behind local_ranks c.args.locals.now c.loop-start.start c.loop-start-test.false) in
    omega (arith, c.loop-start.invariant.so_far, none)
