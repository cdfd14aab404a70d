use Rattle.std.proofs.Common.{◌∙◌, ap, sym}
use Rattle.std.proofs.lemmas.Result.{err_from_is_err_and}
use Rattle.pmg_jobinfo.specs.Jobs.{Jobs}
use Rattle.pmg_world.specs.Asking.{asked_of, line_asks}
use Rattle.pmg_script.specs.Scripts.{line_of}
use Rattle.pmg_world.specs.Stages.{AsksNothing}
use Rattle.pmg_world.proofs.StageSteps.{not_read, same_fault}
use Rattle.pmg_world.proofs.stage.run_other.Goals as goal

pub returns-clause-ok : goal.returns-clause-ok
returns-clause-ok c = record {
  asked = asked_of c.in_ok-asked.asked;
  asks = ap (λ (j : Jobs). line_asks j (line_of c.args.line.now)) (sym c.registry.ensures) ∙ c.in_ok-asked.ensures;
  performs = c.in_ok-text.ensures;
}

pub returns-in_err-asked-clause-malformed : goal.returns-in_err-asked-clause-malformed
unfolding AsksNothing
returns-in_err-asked-clause-malformed c is =
    let p = err_from_is_err_and c.from_residual.result c.from_residual.ensures.1 in
    ap (λ (j : Jobs). line_asks j (line_of c.args.line.now)) (sym c.registry.ensures)
    ∙ not_read c.in_err-asked.field-0.0 (line_asks c.registry.result.now (line_of c.args.line.now)) c.in_err-asked.ensures (same_fault c.from_residual.result p.0 c.in_err-asked.field-0.0 p.1 p.2 is)
