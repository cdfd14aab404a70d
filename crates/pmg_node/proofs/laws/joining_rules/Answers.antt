use Rattle.pmg_node.proofs.JoiningLemmas.{joins_are_all}
use Rattle.pmg_node.proofs.laws.joining_rules.Goals as goal

pub returns : goal.returns
returns c = record { joins_are_all = joins_are_all }
