-- The evidence for a journal from the server that ran its node.
use Rattle.std.specs.Prelude.{◌≡◌, List, [], ◌∷◌}
use Rattle.pmg_node.specs.Servers.{Server, after, sent_by}
use Rattle.pmg_journal.specs.Calling.{caller_of, free_at}
use Rattle.pmg_journal.specs.Replays.{Happening, IsReplay, after_all}
use Rattle.pmg_journal.specs.declared.record.Evidence.{Evidence}
use Rattle.pmg_journal.specs.declared.record.Step.{Step}

-- the server's step at the event: whether the caller is free there, and the frames that it sends
pub record IsStep (s : Server) (e : Happening) (x : Step) : Type 0 where
  pub free : x.is_free ≡ free_at s (caller_of e.act)
  pub sent : x.sent.items ≡ sent_by s e.act

-- the server's step at each event, one after another
abbrev pub AreSteps : Server → List Happening → List Step → Type 0
AreSteps s [] [] = Unit {0}
AreSteps s [] (x ∷ xs) = ⊥
AreSteps s (e ∷ es) [] = ⊥
AreSteps s (e ∷ es) (x ∷ xs) = IsStep s e x × AreSteps (after s e.act) es xs

-- The events are a replay, from that server on, with these steps, and this is the node after them.
pub record IsEvidence (start : Server) (es : List Happening) (evidence : Evidence) : Type 0 where
  pub replay : IsReplay start es
  pub steps : AreSteps start es evidence.steps.items
  pub node : evidence.node ≡ after_all start es
