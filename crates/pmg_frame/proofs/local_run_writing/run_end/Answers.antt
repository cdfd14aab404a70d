use Rattle.std.proofs.Common.{◌≡◌, ◌<◌, ◌≤◌, length, sym, ◌∙◌, arith}
use Rattle.pmg_frame.specs.Runs.{local_ranks}
use Rattle.pmg_frame.proofs.RunEnds.{read_both, goes_alone, goes_further, ends_there, ends_last}
use Rattle.pmg_frame.proofs.RunRules.{local_ranked}
use Rattle.pmg_frame.proofs.local_run_writing.run_end.Goals as goal

pub loop-i-init : goal.loop-i-init
loop-i-init c = goes_alone local_ranks c.args.locals.now c.args.start

pub returns-then-not-goes_on-clause-run : goal.returns-then-not-goes_on-clause-run
returns-then-not-goes_on-clause-run c =
    let later : c.args.start < c.loop-i.i = let low = c.loop-i.auto.i in omega (arith, low) in
    let both = read_both c.args.locals.now c.args.start c.loop-i.i c.index-locals-i.result c.index-locals-i-in-loop-i.result later c.loop-i-test.true c.index-locals-i.is c.index-locals-i-in-loop-i.is in
    ends_there local_ranks local_ranked c.args.locals.now c.args.start c.loop-i.i c.index-locals-i.result c.index-locals-i-in-loop-i.result later both.0 both.1 (sym c.goes_on.ensures ∙ c.if-not-goes_on.true) c.loop-i.invariant

pub loop-i-preserved : goal.loop-i-preserved
loop-i-preserved c =
    let later : c.args.start < c.loop-i.i = let low = c.loop-i.auto.i in omega (arith, low) in
    let both = read_both c.args.locals.now c.args.start c.loop-i.i c.index-locals-i.result c.index-locals-i-in-loop-i.result later c.loop-i-test.true c.index-locals-i.is c.index-locals-i-in-loop-i.is in
    goes_further local_ranks local_ranked c.args.locals.now c.args.start c.loop-i.i c.index-locals-i.result c.index-locals-i-in-loop-i.result later both.0 both.1 (sym c.goes_on.ensures ∙ c.if-not-goes_on.false) c.loop-i.invariant

pub returns-clause-run : goal.returns-clause-run
returns-clause-run c =
    let ls = c.args.locals.now in
    let i = c.loop-i.i in
    let start = c.args.start in
    let low : i ≤ length ls = let lt = c.requires in c.loop-i.auto.i-end (omega (arith, lt)) in
    let at_end : i ≡ length ls = let high = c.loop-i-test.false in omega (arith, low, high) in
    ends_last local_ranks local_ranked ls start c.requires (rw at_end at c.loop-i.invariant)
