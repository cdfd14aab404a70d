use Rattle.std.proofs.Common.{arith}
use Rattle.pmg_join.proofs.RangeSteps.{unreached}
use Rattle.pmg_join.proofs.ranges.reach_from.Goals as goal

pub returns-in-Some-clause-reached : goal.returns-in-Some-clause-reached
returns-in-Some-clause-reached c i b =
    let found = c.in-Some.ensures in
    let is = c.max.ensures in
    (c.in-Some.span.from, c.in-Some.span.to, found.there, (omega (arith, found.before, b.0), omega (arith, is, b.0, b.1)))

pub returns-in-Some-clause-no_more : goal.returns-in-Some-clause-no_more
returns-in-Some-clause-no_more c h =
    let found = c.in-Some.ensures in
    unreached c.args.ends.now c.args.n c.in-Some.span.from c.in-Some.span.to c.max.result c.requires c.max.ensures found.there found.before found.last h

pub returns-in-None-clause-no_more : goal.returns-in-None-clause-no_more
returns-in-None-clause-no_more c (f, t, h, b) = let past = c.in-None.ensures.none f t h in omega (arith, past, b.0)
