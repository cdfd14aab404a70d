use Rattle.std.proofs.Common.{◌≡◌, ◌+◌, ◌-◌, length, Some, refl, sym, ap, ◌∙◌}
use Rattle.std.specs.List.{slice_get}
use Rattle.std.proofs.lemmas.Option.{slice_get_read}
use Rattle.pmg_value.specs.declared.process.Proc.{Proc}
use Rattle.pmg_frame.specs.Runs.{proc_ranks}
use Rattle.pmg_frame.proofs.Among.{there_if}
use Rattle.pmg_frame.proofs.RunFar.{run_alone}
use Rattle.pmg_frame.proofs.SameLemmas.{same_procs}
use Rattle.pmg_frame.proofs.comparing.is_run_from.Goals as goal

pub returns-then-eq : goal.returns-then-eq
returns-then-eq c = λ goes.
    let procs = c.args.procs.now in
    let first = c.args.first.now in
    let last = length procs - 1 in
    let begin : c.index-procs-0.result ≡ first = (same_procs c.index-procs-0.result first).0 (sym c.eq.ensures ∙ c.if-eq.true) in
    let there : slice_get procs last ≡ Some (proc_ranks.at first (first.rank + last)) =
    there_if (slice_get procs last) (proc_ranks.at first (first.rank + last)) (sym c.goes_to.ensures ∙ goes) in
    run_alone first procs c.requires.some c.requires.rising (slice_get_read procs (length procs) 0 c.index-procs-0.result refl c.requires.some c.index-procs-0.is ∙ ap (λ (p : Proc). Some p) begin) there
