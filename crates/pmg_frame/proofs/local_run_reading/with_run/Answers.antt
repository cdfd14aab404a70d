use Rattle.std.proofs.Common.{◌++◌}
use Rattle.pmg_frame.specs.Runs.{local_ranks, run, items_of}
use Rattle.pmg_frame.proofs.RunLoops.{line_more, line_done}
use Rattle.pmg_frame.proofs.RunRules.{local_ranked}
use Rattle.pmg_frame.proofs.local_run_reading.with_run.Goals as goal

pub loop-rank-preserved : goal.loop-rank-preserved
loop-rank-preserved c =
    let first = c.args.first.now in
    let total = c.args.locals.items ++ items_of local_ranks (run first c.args.last) in
    rw (c.in_ok-push.ensures.items, c.in_ok-local.ensures) (line_more local_ranks local_ranked c.loop-rank.locals.items first c.args.last c.loop-rank.rank total c.loop-rank-test.true c.loop-rank.invariant)

pub returns : goal.returns
returns c =
    let total = c.args.locals.items ++ items_of local_ranks (run c.args.first.now c.args.last) in
    line_done local_ranks c.loop-rank.locals.items c.args.first.now c.args.last c.loop-rank.rank total c.loop-rank-test.false c.loop-rank.invariant
