use Rattle.pmg_audit.proofs.OneRun.{moves_are_one_run}
use Rattle.pmg_audit.proofs.laws.audit_rules.Goals as goal

pub returns : goal.returns
returns c = record { one_run = moves_are_one_run }
