use Rattle.std.proofs.Common.{◌∙◌, sym}
use Rattle.std.proofs.lemmas.Result.{IfOk-weaker}
use Rattle.pmg_script.specs.Scripts.{line_of}
use Rattle.pmg_world.specs.Stages.{Runs, RunsAt}
use Rattle.pmg_world.specs.declared.phase.Phase.TheVariants as phases
use Rattle.pmg_world.proofs.StageSteps.{runs_there, nothing_runs}
use Rattle.pmg_world.proofs.stage.Stage.run.Goals as goal

pub returns-in-Running-clause-ok : goal.returns-in-Running-clause-ok
returns-in-Running-clause-ok c =
    let is = sym c.self.view_is ∙ c.in-Running.is in
    IfOk-weaker c.run_line.result (λ text. Runs c.in-Running.scene (line_of c.args.line.now) text.items c.run_line.new.scene)
    (λ text. RunsAt c.args.self.now (line_of c.args.line.now) text.items (phases.Running c.run_line.new.scene))
    (λ text runs. runs_there c.args.self.now c.in-Running.scene c.run_line.new.scene (line_of c.args.line.now) text.items is runs) c.run_line.ensures.ok

pub returns-in-Running-clause-malformed : goal.returns-in-Running-clause-malformed
returns-in-Running-clause-malformed c bad =
    nothing_runs c.args.self.now c.in-Running.scene (line_of c.args.line.now) (sym c.self.view_is ∙ c.in-Running.is) (c.run_line.ensures.malformed bad)

pub start-requires : goal.start-requires
start-requires c w is = c.in_default.not-Running w is
