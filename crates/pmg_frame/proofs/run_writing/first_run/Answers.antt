use Rattle.std.proofs.Common.{◌≡◌, ℕ, suc, ◌+◌, Some, subst, arith}
use Rattle.std.specs.List.{slice_get}
use Rattle.pmg_frame.specs.Runs.{proc_ranks, IsFirstRun}
use Rattle.pmg_frame.proofs.RunFar.{first_far}
use Rattle.pmg_frame.proofs.run_writing.first_run.Goals as goal

pub returns-clause-run : goal.returns-clause-run
returns-clause-run c =
    let procs = c.args.procs.now in
    let first = c.index-procs-0.result in
    let known = c.loop-step.known in
    let i = c.loop-step.invariant in
    let more : suc known ≡ known + 1 = omega arith in
    let one : known + c.loop-step.step ≡ suc known = omega (arith, c.loop-step-test.false, i.some) in
    let ends : slice_get procs (suc known) ≡ Some (proc_ranks.at first (first.rank + suc known)) → ⊥ = subst (λ (m : ℕ). slice_get procs m ≡ Some (proc_ranks.at first (first.rank + m)) → ⊥) one i.ends in
    subst (IsFirstRun proc_ranks procs) more (first_far known first procs c.requires.rising i.first i.goes ends)
