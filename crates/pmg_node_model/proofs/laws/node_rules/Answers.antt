use Rattle.pmg_node_model.proofs.ActsFitted.{acts_fit}
use Rattle.pmg_node_model.proofs.Asking.{held_stay_own}
use Rattle.pmg_node_model.proofs.Names.{names_come, tops_come, two_stay, names_stay, tops_rise}
use Rattle.pmg_node_model.proofs.Reading.{answers_stay, answered_have}
use Rattle.pmg_node_model.proofs.Releasing.{released_where_ready}
use Rattle.pmg_node_model.proofs.AfterActs.{parked_wait, ready_frees, freed_by_ready, freed_stays}
use Rattle.pmg_node_model.proofs.AnewCalls.{refreshing_stays}
use Rattle.pmg_node_model.proofs.laws.node_rules.Goals as goal

pub returns : goal.returns
returns c = record {
  acts_fit = acts_fit;
  parked_wait = parked_wait;
  answers_stay = answers_stay;
  answered_have = answered_have;
  refreshing_stays = refreshing_stays;
  ready_frees = ready_frees;
  freed_by_ready = freed_by_ready;
  freed_stays = freed_stays;
  released_where_ready = released_where_ready;
  names_come = names_come;
  tops_come = tops_come;
  two_stay = two_stay;
  names_stay = names_stay;
  tops_rise = tops_rise;
  held_stay_own = held_stay_own;
}
