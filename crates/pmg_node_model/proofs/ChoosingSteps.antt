-- To do an act and to send what is chosen is a step of a node.
use Rattle.std.proofs.Common.{◌≡◌, ℕ, Bool, true, [], refl, ap}
use Rattle.std.specs.Prelude.{if◌then◌else◌}
use Rattle.pmg_jobinfo.specs.Jobs.{Jobs}
use Rattle.pmg_dmodex.specs.Levels.{Levels}
use Rattle.pmg_node_model.specs.Acts.{Act, acts}
use Rattle.pmg_node_model.specs.Choosing.{due_by, marked_by_act, sends, chosen}
use Rattle.pmg_node_model.specs.Holdings.{NodeState, sealer_of}
use Rattle.pmg_node_model.specs.Sending.{is_quiet}
use Rattle.pmg_node_model.specs.SendingRules.{ChosenIsStep}
use Rattle.pmg_node_model.proofs.ChoosingActs.{chosen_go_to_peers, chosen_is_allowed}
use Rattle.pmg_node_model.proofs.ChoosingOwed.{chosen_has_owed}

-- a refusal sends nothing, nor does a frame that is ignored
chosen_is_quiet : (jobs : Jobs) (id : ℕ) (old : NodeState) (marks : Levels) (a : Act) → is_quiet (acts jobs id old a).reply ≡ true → (chosen jobs id old marks a).frames ≡ []
unfolding chosen
chosen_is_quiet jobs id old marks a e =
    ap (λ (b : Bool). (if b then record { frames = []; marks = marks } else sends (sealer_of (acts jobs id old a).left) (marked_by_act marks a) (due_by jobs id old a (acts jobs id old a).left)).frames) e

pub chosen_is_step : ChosenIsStep
chosen_is_step jobs are id old server marks a = record {
  replied = refl;
  left = refl;
  quiet = chosen_is_quiet jobs id old marks a;
  peers = chosen_go_to_peers jobs are id old server marks a;
  allowed = chosen_is_allowed jobs are id old server marks a;
  owed = chosen_has_owed jobs are id old server marks a;
}
