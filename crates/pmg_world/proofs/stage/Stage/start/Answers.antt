use Rattle.std.proofs.Common.{◌∙◌, ap, sym, Err}
use Rattle.std.proofs.lemmas.Result.{err_from_is_err_and}
use Rattle.pmg_script.specs.Scripts.{line_of}
use Rattle.pmg_world.proofs.StageSteps.{starts_there, nothing_starts, closed, same_fault}
use Rattle.pmg_world.proofs.stage.Stage.start.Goals as goal

pub returns-clause-ok : goal.returns-clause-ok
returns-clause-ok c =
    starts_there c.args.self.now c.in-Registering.registry c.in_ok-scene.scene c.run_line.new.scene (line_of c.args.line.now) c.in_ok-text.text.items
    (sym c.self.view_is ∙ c.in-Registering.is) c.in_ok-scene.ensures c.in_ok-text.ensures.ok

pub returns-in_err-text-clause-malformed :
    goal.returns-in_err-text-clause-malformed
returns-in_err-text-clause-malformed c bad =
    let p = err_from_is_err_and c.from_residual-in_err-text.result c.from_residual-in_err-text.ensures.1 in
    let same = same_fault c.from_residual-in_err-text.result p.0 c.in_err-text.field-0.0 p.1 p.2 bad in
    nothing_starts c.args.self.now c.in-Registering.registry c.in_ok-scene.scene (line_of c.args.line.now) (sym c.self.view_is ∙ c.in-Registering.is)
    c.in_ok-scene.ensures (c.in_err-text.ensures.malformed (ap Err same))

pub returns-in_default-clause-malformed : goal.returns-in_default-clause-malformed
returns-in_default-clause-malformed c bad =
    closed c.args.self.now (line_of c.args.line.now) c.requires (λ jobs is. c.in_default.not-Registering jobs (c.self.view_is ∙ is))
