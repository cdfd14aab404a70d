use Rattle.pmg_wire.proofs.FieldLaws.{value_if, value_only, one_spelling}
use Rattle.pmg_wire.proofs.laws.value_rules.Goals as goal

pub returns : goal.returns
returns c = record {
  found = λ at v after fits read. (value_if at fits).holds v after read;
  only = value_only;
  one_spelling = one_spelling;
}
