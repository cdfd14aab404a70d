-- Replays of the events at a node.
use Rattle.std.specs.Prelude.{◌≡◌, List, [], ◌∷◌, ◌++◌}
use Rattle.pmg_node_model.specs.Acts.{Act, Reply}
use Rattle.pmg_node_model.specs.declared.sent.Sent.{Sent}
use Rattle.pmg_node.specs.Servers.{Server, after, reply_to, sent_by}

-- an event at a node: an act, and its reply
pub record Happening : Type 0 where
  pub act : Act
  pub reply : Reply

-- the happening of that act, with that reply
abbrev pub happening : Act → Reply → Happening
happening act reply = record { act = act; reply = reply }

-- the server after all events
abbrev pub after_all : Server → List Happening → Server
after_all s [] = s
after_all s (e ∷ es) = after_all (after s e.act) es

-- the frames that the server sends during the events
abbrev pub sent_over : Server → List Happening → List Sent
sent_over s [] = []
sent_over s (e ∷ es) = sent_by s e.act ++ sent_over (after s e.act) es

-- The events are a replay: the server gives each reply there.
abbrev pub IsReplay : Server → List Happening → Type 0
IsReplay s [] = Unit {0}
IsReplay s (e ∷ es) = (reply_to s e.act ≡ e.reply) × IsReplay (after s e.act) es
