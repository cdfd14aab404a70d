use Rattle.pmg_node_model.proofs.KeptActs.{new_is_server, server_stays}
use Rattle.pmg_node_model.proofs.KeptAgain.{settled_on, settled_names}
use Rattle.pmg_node_model.proofs.KeptSettled.{settled_same}
use Rattle.pmg_node_model.proofs.ChoosingActs.{chosen_go_to_peers, chosen_is_allowed}
use Rattle.pmg_node_model.proofs.ChoosingOwed.{chosen_has_owed}
use Rattle.pmg_node_model.proofs.ChoosingSteps.{chosen_is_step}
use Rattle.pmg_node_model.proofs.sending_laws.sending_rules.Goals as goal

pub returns : goal.returns
returns c = record {
  new_is_server = new_is_server;
  server_stays = server_stays;
  settled_same = settled_same;
  settled_on = settled_on;
  settled_names = settled_names;
  chosen_go_to_peers = chosen_go_to_peers;
  chosen_is_allowed = chosen_is_allowed;
  chosen_has_owed = chosen_has_owed;
  chosen_is_step = chosen_is_step;
}
