use Rattle.pmg_scope.proofs.ScriptLaws.{commits_never_fall, past_values_stay, end_is_last}
use Rattle.pmg_scope.proofs.SealingLaws.{past_seals_stay, sealed_is_value, none_is_no_value}
use Rattle.pmg_scope.proofs.laws.script_rules.Goals as goal

pub returns : goal.returns
returns c = record {
  commits_never_fall = commits_never_fall;
  past_values_stay = past_values_stay;
  past_seals_stay = past_seals_stay;
  sealed_is_value = sealed_is_value;
  none_is_no_value = none_is_no_value;
  end_is_last = end_is_last;
}
