use Rattle.std.proofs.Common.{arith}
use Rattle.std.proofs.lemmas.Result.{err_from_is_err_and}
use Rattle.pmg_jobfile.specs.Reading.{json_space}
use Rattle.pmg_jobfile.proofs.ReadLemmas.{weaker, item_bad, item_more, all_read}
use Rattle.pmg_jobfile.proofs.parts.spaces_of.Goals as goal

pub returns-in_err-space_in : goal.returns-in_err-space_in
returns-in_err-space_in c =
    let p = err_from_is_err_and c.from_residual.result c.from_residual.ensures.1 in
    let e = c.in_err-space_in.field-0.0 in
    rw (p.1, p.2) (weaker e (item_bad (json_space c.args.nodes) c.args.items.now c.loop-item.spaces.items c.loop-item.item-index c.item-item.result e c.loop-item-test.true c.item-item.is c.loop-item.invariant) c.in_err-space_in.ensures)

pub loop-item-preserved : goal.loop-item-preserved
loop-item-preserved c = rw c.in_ok-push.ensures.items (item_more (json_space c.args.nodes) c.args.items.now c.loop-item.spaces.items c.loop-item.item-index c.item-item.result c.in_ok-space_in.field-0 c.loop-item-test.true c.item-item.is c.loop-item.invariant c.in_ok-space_in.ensures)

pub returns : goal.returns
returns c = all_read (json_space c.args.nodes) c.args.items.now c.loop-item.spaces.items c.loop-item.item-index (omega (arith, c.loop-item-test.false)) c.loop-item.invariant
