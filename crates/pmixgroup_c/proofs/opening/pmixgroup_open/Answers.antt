use Rattle.std.proofs.Common.{inl, refl}
use Rattle.pmg_value.specs.declared.refusal.Refusal.TheVariants as refusals
use Rattle.pmixgroup_c.proofs.opening.pmixgroup_open.Goals as goal

pub returns-clause-refused : goal.returns-clause-refused
returns-clause-refused c = λ failed empty. (refusals.NoMemory, (refl, inl tt))
