-- The rules of the frames that a node sends.
use Rattle.std.specs.Prelude.{◌≡◌, ℕ, true}
use Rattle.pmg_value.specs.Lists.{In, Each}
use Rattle.pmg_dmodex.specs.Levels.{Levels}
use Rattle.pmg_jobinfo.specs.Jobs.{Jobs, AreJobs}
use Rattle.pmg_node_model.specs.Acts.{Act, is_peer, acts}
use Rattle.pmg_node_model.specs.Choosing.{chosen}
use Rattle.pmg_node_model.specs.Holdings.{NodeState}
use Rattle.pmg_node_model.specs.Kept.{IsServer}
use Rattle.pmg_node_model.specs.Sending.{Allowed, Owes, NodeStep}
use Rattle.pmg_node_model.specs.declared.sent.Sent.{Sent}

-- each chosen frame goes to another node of the group
abbrev pub ChosenGoToPeers : Type 0
ChosenGoToPeers =
    (jobs : Jobs) → AreJobs jobs → (id : ℕ) (old : NodeState) → IsServer jobs id old → (marks : Levels) (a : Act)
    → Each (λ s. is_peer jobs id s.to ≡ true) (chosen jobs id old marks a).frames

-- each chosen frame is allowed
abbrev pub ChosenIsAllowed : Type 0
ChosenIsAllowed =
    (jobs : Jobs) → AreJobs jobs → (id : ℕ) (old : NodeState) → IsServer jobs id old → (marks : Levels) (a : Act)
    → Each (λ s. Allowed jobs id a (acts jobs id old a).left s.frame) (chosen jobs id old marks a).frames

-- each owed frame is chosen, for any marks
abbrev pub ChosenHasOwed : Type 0
ChosenHasOwed =
    (jobs : Jobs) → AreJobs jobs → (id : ℕ) (old : NodeState) → IsServer jobs id old → (marks : Levels) (a : Act) (s : Sent)
    → Owes jobs id old a (acts jobs id old a).left s → In s (chosen jobs id old marks a).frames

-- therefore an act, together with the chosen frames, is one step of a node
abbrev pub ChosenIsStep : Type 0
ChosenIsStep =
    (jobs : Jobs) → AreJobs jobs → (id : ℕ) (old : NodeState) → IsServer jobs id old → (marks : Levels) (a : Act)
    → NodeStep jobs id old a (acts jobs id old a).reply (acts jobs id old a).left (chosen jobs id old marks a).frames
