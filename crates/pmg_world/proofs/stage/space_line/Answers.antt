use Rattle.std.proofs.Common.{refl}
use Rattle.pmg_world.specs.declared.phase.Phase.TheVariants as phases
use Rattle.pmg_world.proofs.StageSteps.{registers_there, keeps_there}
use Rattle.pmg_world.proofs.stage.space_line.Goals as goal

pub returns-in-Err-clause-ok : goal.returns-in-Err-clause-ok
returns-in-Err-clause-ok c =
    keeps_there (phases.Registering c.args.registry.now) c.args.registry.now c.register_space.new.registry c.args.nspace.now c.args.homes.now c.in_ok-line_of_refusal-in-Err.field-0.items c.in-Err.refusal
    refl (c.in-Err.ensures.refused c.in_ok-line_of_refusal-in-Err.ensures.memory) c.in-Err.ensures.err c.in_ok-line_of_refusal-in-Err.ensures.line

pub returns-clause-ok : goal.returns-clause-ok
returns-clause-ok c =
    registers_there (phases.Registering c.args.registry.now) c.args.registry.now c.register_space.new.registry c.args.nspace.now c.args.homes.now c.in_ok-ok_line.field-0.items refl
    c.in-Ok.ensures.ok c.in_ok-ok_line.ensures
