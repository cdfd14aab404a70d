use Rattle.std.proofs.Common.{◌≡◌, List, length, Some, refl, arith, ap}
use Rattle.std.specs.List.{flat_map}
use Rattle.std.specs.Prelude.{slice_get}
use Rattle.std.proofs.lemmas.Option.{slice_get_read}
use Rattle.pmg_frame.specs.Runs.{local_ranks, RankRun}
use Rattle.pmg_frame.specs.RunSpelling.{local_run_spelling}
use Rattle.pmg_frame.specs.declared.local.Local.{Local}
use Rattle.pmg_frame.proofs.RunEnds.{run_sized, none_behind}
use Rattle.pmg_frame.proofs.local_run_writing.local_runs_size.Goals as goal

pub returns-clause-value : goal.returns-clause-value
returns-clause-value c =
    let none = ap (λ (rs : List (RankRun Local)). length (flat_map local_run_spelling rs)) (none_behind local_ranks c.args.locals.now c.loop-start.start c.loop-start-test.false) in
    omega (arith, c.loop-start.invariant.so_far, none)

pub loop-start-preserved : goal.loop-start-preserved
loop-start-preserved c =
    let ls = c.args.locals.now in
    let start = c.loop-start.start in
    let first = c.index-locals-start.result in
    let size = c.run_size-size.ensures in
    let e = c.run_end-start.ensures in
    let before = c.loop-start.invariant in
    let at_first : slice_get ls start ≡ Some first = slice_get_read ls (length ls) start first refl c.loop-start-test.true c.index-locals-start.is in
    let sized = run_sized local_ranks local_run_spelling ls start c.run_end-start.result c.run_size-size.result first e.after e.within e.run at_first size.value in
    record { so_far = omega (arith, before.so_far, sized); bound = omega (arith, before.bound, size.bound, e.after); within = e.within }
