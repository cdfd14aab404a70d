use Rattle.std.proofs.Common.{◌∙◌, sym}
use Rattle.pmg_value.specs.CheckOrder.{first_of}
use Rattle.pmg_jobinfo.specs.Jobs.{opened}
use Rattle.pmg_jobinfo.specs.Refusing.{new_cause}
use Rattle.pmg_script.specs.Scripts.{texts}
use Rattle.pmg_world.proofs.StageSteps.{opens_there, refused_there, not_fresh}
use Rattle.pmg_grouptext.proofs.SpaceLemmas.{refuses}
use Rattle.pmg_world.proofs.stage.Stage.open.Goals as goal

pub returns-in_default : goal.returns-in_default
returns-in_default c = record {
  ok = tt;
  malformed = λ bad text v. not_fresh c.args.self.now (texts c.args.names.now) text v (λ is. c.in_default.not-Fresh (c.self.view_is ∙ is));
}

pub returns-in_ok-ok_line-in-Ok-clause-ok : goal.returns-in_ok-ok_line-in-Ok-clause-ok
returns-in_ok-ok_line-in-Ok-clause-ok c =
    opens_there c.args.self.now (texts c.args.names.now) c.in_ok-ok_line-in-Ok.field-0.items c.in-Ok.registry (sym c.self.view_is ∙ c.in-Fresh.is) c.in-Ok.ensures c.in_ok-ok_line-in-Ok.ensures

pub returns-in_ok-reply-in-Err-clause-ok : goal.returns-in_ok-reply-in-Err-clause-ok
returns-in_ok-reply-in-Err-clause-ok c =
    let names = texts c.args.names.now in
    refused_there c.args.self.now names c.in_ok-reply-in-Err.reply.items c.in-Err.refusal (sym c.self.view_is ∙ c.in-Fresh.is)
    (refuses c.in-Err.refusal (first_of (new_cause names) (opened names)) c.in_ok-reply-in-Err.ensures.memory c.in-Err.ensures) c.in_ok-reply-in-Err.ensures.line
