use Rattle.std.proofs.Common.{sym, ◌∙◌}
use Rattle.pmg_wire.specs.Fields.{read_value}
use Rattle.pmg_wire.proofs.Steps.{fails_as_due}
use Rattle.pmg_wire.proofs.FieldLaws.{value_if, value_only}
use Rattle.pmg_wire.proofs.values.get_value.Goals as goal

pub returns-in-Ok-clause-found : goal.returns-in-Ok-clause-found
returns-in-Ok-clause-found c = (value_if c.args.at.now c.fork-start.ensures.bytes).holds c.in-Ok.value c.value_of.new.at c.in-Ok.ensures

pub returns-in-Ok-clause-only : goal.returns-in-Ok-clause-only
returns-in-Ok-clause-only c = λ v after s. sym (value_only c.args.at.now v after s) ∙ c.in-Ok.ensures

pub returns-in-Err-clause-only : goal.returns-in-Err-clause-only
returns-in-Err-clause-only c = λ v after s. fails_as_due c.in-Err.refusal (read_value c.args.at.now) _ c.in-Err.ensures (value_only c.args.at.now v after s)
