use Rattle.pmg_frame.specs.Runs.{proc_ranks, local_ranks}
use Rattle.pmg_frame.proofs.RunRules.{proc_ranked, local_ranked, run_rules}
use Rattle.pmg_frame.proofs.laws.run_rules.Goals as goal

pub returns : goal.returns
returns c = record { procs = run_rules proc_ranks proc_ranked; locals = run_rules local_ranks local_ranked }
