use Rattle.pmg_group_model.proofs.Keeping.{keeps_two, keeps_waiting}
use Rattle.pmg_group_model.proofs.RunLemmas.{run_is_lawful}
use Rattle.pmg_group_model.proofs.Runs.{always_good, one_header}
use Rattle.pmg_group_model.proofs.ToldScripts.{scripts_are_told}
use Rattle.pmg_group_model.proofs.Turned.{names_were_entered, always_in_turn}
use Rattle.pmg_group_model.proofs.laws.every_interleaving.Goals as goal

pub returns : goal.returns
returns c = record {
  always_good = always_good;
  scripts_are_told = scripts_are_told;
  one_header = one_header;
  names_were_entered = names_were_entered;
  always_in_turn = always_in_turn;
  keeps_two = keeps_two;
  keeps_waiting = keeps_waiting;
  fence_theorem = λ jobs are told w run. (run_is_lawful jobs are told w run).keeps_fence;
  released_whole = λ jobs are told w run. (run_is_lawful jobs are told w run).releases_whole;
  released_alike = λ jobs are told w run. (run_is_lawful jobs are told w run).releases_alike;
  gets_rise = λ jobs are told w run. (run_is_lawful jobs are told w run).answers_never_fall;
  refresh_theorem = λ jobs are told w run. (run_is_lawful jobs are told w run).refreshes_anew;
}
