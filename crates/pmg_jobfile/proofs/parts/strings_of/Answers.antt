use Rattle.std.proofs.Common.{map, arith}
use Rattle.std.proofs.lemmas.Result.{err_from_is_err_and}
use Rattle.std.proofs.lemmas.List.{map_push}
use Rattle.serde_json.specs.Find.{as_str}
use Rattle.pmg_jobfile.proofs.ReadLemmas.{weaker, item_bad, item_more, all_read}
use Rattle.pmg_jobfile.proofs.parts.strings_of.Goals as goal

pub returns-in_err-string_in : goal.returns-in_err-string_in
returns-in_err-string_in c =
    let p = err_from_is_err_and c.from_residual.result c.from_residual.ensures.1 in
    let e = c.in_err-string_in.field-0.0 in
    rw (p.1, p.2) (weaker e (item_bad as_str c.args.items.now (map (λ s. s.now) c.loop-item.strings.items) c.loop-item.item-index c.item-item.result e c.loop-item-test.true c.item-item.is c.loop-item.invariant) c.in_err-string_in.ensures)

pub loop-item-preserved : goal.loop-item-preserved
loop-item-preserved c = rw (c.in_ok-push.ensures.items) (rw (map_push (λ s. s.now) c.loop-item.strings.items c.in_ok-string_in.field-0) (item_more as_str c.args.items.now (map (λ s. s.now) c.loop-item.strings.items) c.loop-item.item-index c.item-item.result c.in_ok-string_in.field-0.now c.loop-item-test.true c.item-item.is c.loop-item.invariant c.in_ok-string_in.ensures))

pub returns : goal.returns
returns c = all_read as_str c.args.items.now (map (λ s. s.now) c.loop-item.strings.items) c.loop-item.item-index (omega (arith, c.loop-item-test.false)) c.loop-item.invariant
