use Rattle.std.proofs.Common.{arith, ap}
use Rattle.std.specs.Option.{is_some}
use Rattle.std.proofs.lemmas.Grind.{common_steps}
use Rattle.pmg_join.proofs.ranges.last_up_to.Goals as goal

pub returns-in-Some-next_back-clause-last : goal.returns-in-Some-next_back-clause-last
returns-in-Some-next_back-clause-last c from to h le =
    let facts = (c.range.ensures.in_range tt).4 _ _ c.in-Some-next_back.ensures.steps in
    let there = ap is_some h in
    grind (arith, common_steps, facts from, there)
