-- A node as its program sees it: its server, the frames that it has to send, and the joined pieces of its last act.
use Rattle.std.specs.Prelude.{◌≡◌, ◌++◌, List, [], Option, Result, Ok, Err, OnErr, refl}
use Rattle.std.specs.Coded.{Coded, code_by, coded×, coded_list, coded_option}
use Rattle.pmg_value.specs.declared.refusal.Refusal.{Refusal}
use Rattle.pmg_value.specs.declared.refusal.Refusal.TheVariants as refusals
use Rattle.pmg_commit.specs.Knowledge.{Contribution}
use Rattle.pmg_node_model.specs.Acts.{Act, Reply}
use Rattle.pmg_node_model.specs.declared.sent.Sent.{Sent}
use Rattle.pmg_node.specs.Joining.{Joins, joins, no_joins}
use Rattle.pmg_node.specs.Servers.{Server, IsAnswered, RepliesAct, after, coded_server, sent_by}

-- A node: its server, the frames that wait to be taken, the next one first, and the joined pieces of its last act. The node's meaning is
-- its server and its frames; the joined pieces only describe the last act.
pub record Node : Type 0 where
  pub server : Server
  pub outbox : List Sent
  pub joined : Joins

-- a node as a tuple
abbrev pub coded_node : Coded Sent → Coded Contribution → Coded Node
coded_node coded_sent coded_piece =
    code_by (Server × (List Sent × (Option Contribution × Option Contribution)))
    (coded× coded_server (coded× (coded_list coded_sent) (coded× (coded_option coded_piece) (coded_option coded_piece))))
    (λ n. (n.server, (n.outbox, (n.joined.near, n.joined.far))))
    (λ p. record { server = p.0; outbox = p.1.0; joined = record { near = p.1.1.0; far = p.1.1.1 } }) (λ _. refl)

-- the node of a new server: no frame waits, and no act joined a piece
abbrev pub new_node : Server → Node
new_node s = record { server = s; outbox = []; joined = no_joins }

-- the two nodes have an equal meaning: equal servers, and equal frames that wait
abbrev pub SameNode : Node → Node → Type 0
SameNode n m = (n.server ≡ m.server) × (n.outbox ≡ m.outbox)

-- the joined pieces of a call with this answer: the pieces of its act, and nothing if the call is refused
abbrev pub joined_by : {X : Type 0} → Result X Refusal → Server → Act → Joins
joined_by (Ok x) s a = joins s.jobs s.id s.holding a
joined_by (Err e) s a = no_joins

-- A call of a node that makes the act, with this answer. The reply is the due one, and the server is the one after the act. The act's
-- frames are appended to the waiting frames, and the joined pieces are visible. If an allocation fails, the node's meaning is unchanged.
pub record Acts {X : Type 0} (view : X → Reply) (old : Node) (act : Act) (result : Result X Refusal) (new : Node) : Type 0 where
  pub reply : RepliesAct view result old.server act
  pub done : IsAnswered result → new.server ≡ after old.server act
  pub sent : IsAnswered result → new.outbox ≡ old.outbox ++ sent_by old.server act
  pub joined : new.joined ≡ joined_by result old.server act
  pub memory : result ≡ Err refusals.NoMemory → SameNode new old
