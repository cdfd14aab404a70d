use Rattle.std.proofs.Common.{◌≡◌, ◌+◌, Some, sym, refl, arith}
use Rattle.std.specs.List.{slice_get}
use Rattle.std.proofs.lemmas.Option.{slice_get_within}
use Rattle.pmg_frame.specs.Runs.{proc_ranks}
use Rattle.pmg_frame.proofs.Among.{there_if}
use Rattle.pmg_frame.proofs.run_writing.far_ends.Goals as goal

pub loop-known-preserved : goal.loop-known-preserved
loop-known-preserved c =
    let procs = c.args.procs.now in
    let first = c.args.first.now in
    let far = c.loop-known.known + c.loop-known.step in
    let there : slice_get procs far ≡ Some (proc_ranks.at first (first.rank + far)) = there_if (slice_get procs far) (proc_ranks.at first (first.rank + far)) (sym c.loop-known-test.ensures) in
    let within = slice_get_within procs far (proc_ranks.at first (first.rank + far)) there in
    record { goes = there; within = omega (arith, within); step = refl }
