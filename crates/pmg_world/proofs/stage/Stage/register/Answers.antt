use Rattle.std.proofs.Common.{◌∙◌, sym}
use Rattle.pmg_world.proofs.StageSteps.{not_registering}
use Rattle.pmg_world.proofs.stage.Stage.register.Goals as goal
use Rattle.pmg_world.proofs.stage.Stage.register.Goals.{in-Registering, in_default}

pub returns-clause-malformed : goal.returns-clause-malformed
returns-clause-malformed c bad text v registers =
    elim c.match-self.branch [
      | in-Registering w ↦ w.space_line.ensures.formed (sym w.result-is ∙ bad)
      | in_default w ↦
          not_registering c.args.self.now c.args.nspace.now c.args.homes.now text v (λ jobs is. w.in_default.not-Registering jobs (c.self.view_is ∙ is)) registers
    ]
