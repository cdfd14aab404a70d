use Rattle.pmg_jobinfo.proofs.ListedLemmas.{own_are_listed, listed_are_own, listed_are_clients}
use Rattle.pmg_jobinfo.proofs.laws.home_rules.Goals as goal

pub returns : goal.returns
returns c = record { own_are_listed = own_are_listed; listed_are_own = listed_are_own; listed_are_clients = listed_are_clients }
