use Rattle.std.proofs.Common.{refl}
use Rattle.pmg_scope.specs.Scripts.{before, value_at}
use Rattle.pmg_scope.proofs.laws.script_examples.Goals as goal

pub returns-clause-each_scope : goal.returns-clause-each_scope
unfolding value_at before
returns-clause-each_scope c = (refl, refl, refl, refl, refl, refl, refl, refl, refl)

pub returns-clause-two_values : goal.returns-clause-two_values
unfolding value_at before
returns-clause-two_values c = (refl, refl)

pub returns-clause-put_again : goal.returns-clause-put_again
unfolding value_at before
returns-clause-put_again c = (refl, refl, refl)

pub returns-clause-lost_put : goal.returns-clause-lost_put
unfolding value_at before
returns-clause-lost_put c = (refl, refl, refl, refl)
