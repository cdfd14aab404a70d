-- The state under the lock of a desk.
use Rattle.std.specs.Prelude.{◌≡◌, ℕ, ◌≤◌, true, List, [], ◌∷◌, ◌++◌, length, map, drop, All, Option, Some, None, IfSome, IsSome, Result}
use mathlib.Core.List.{IsPrefix}
use Rattle.pmg_value.specs.declared.refusal.Refusal.{Refusal}
use Rattle.pmg_frame.specs.declared.frame.Frame.{Frame}
use Rattle.pmg_node_model.specs.Acts.{Act as ModelAct}
use Rattle.pmg_node_model.specs.declared.sent.Sent.{Sent}
use Rattle.pmg_node.specs.Acting.{act_of, reply_as}
use Rattle.pmg_node.specs.Servers.{Server, after, reply_in, reply_to, sent_by}
use Rattle.pmg_node.specs.declared.act.Act.{Act}
use Rattle.pmg_node.specs.declared.act.Reply.{Reply}
use Rattle.pmg_publish.specs.Publications.{Publications}
use Rattle.pmg_publish.specs.declared.counting.Publication.{Publication}
use Rattle.pmg_desk.specs.declared.state.Parts.{Parts}
use Rattle.pmg_journal.specs.Journals.{IsJournal, happened, start_of, happened_in}
use Rattle.pmg_journal.specs.Records.{AreSteps, IsStep}
use Rattle.pmg_journal.specs.Replays.{Happening, after_all, sent_over}
use Rattle.pmg_journal.specs.declared.record.Step.{Step}
use Rattle.pmg_desk.specs.Publishing.{published_by, published_over}

-- The replay leads to the node, and the outbox holds the frames of the replay without the taken ones.
pub record IsLive (start : Server) (es : List Happening) (taken : ℕ) (outbox : List Sent) (node : Server) : Type 0 where
  pub node_is : node ≡ after_all start es
  pub outbox_is : outbox ≡ drop taken (sent_over start es)
  pub bound : taken ≤ length (sent_over start es)

-- The invariant of the kept state. The journal is a replay with these steps, the publications are the replay's, and viewers read them.
-- While there is a node, it is the replay's, the journal is the list whose prefixes clients know, the publisher is open, and no last node
-- is kept. The last node, if one is kept, is also the replay's.
pub record IsStateKept (p : Parts) : Type 0 where
  pub journal : IsJournal p.journal
  pub published : p.publisher.log ≡ published_over (start_of p.journal) (happened_in p.journal)
  pub live : IfSome p.node (IsLive (start_of p.journal) (happened_in p.journal) p.taken p.outbox.items)
  pub list : IsSome p.node → p.list.log ≡ p.journal.events.items
  pub open_then : IsSome p.node → p.publisher.is_open ≡ true
  pub read : p.publisher.is_read ≡ true
  pub viewers : All (λ (v : Publications). v.book ≡ p.publisher.book) p.viewers.items
  pub steps : AreSteps (start_of p.journal) (happened_in p.journal) p.steps.items
  pub last : IfSome p.last (λ s. s ≡ after_all (start_of p.journal) (happened_in p.journal))
  pub none_last : IsSome p.node → p.last ≡ None

-- the desk is unchanged: its node's index and group, the books of its journal and of its publisher, and the number of taken frames
pub record IsAt (p q : Parts) : Type 0 where
  pub node : q.journal.node ≡ p.journal.node
  pub registry : q.journal.registry ≡ p.journal.registry
  pub list : q.list.book ≡ p.list.book
  pub book : q.publisher.book ≡ p.publisher.book
  pub taken : q.taken ≡ p.taken

-- nothing happened
pub record NothingHappened (p q : Parts) : Type 0 where
  pub node : q.node ≡ p.node
  pub list : q.list ≡ p.list
  pub outbox : q.outbox.items ≡ p.outbox.items
  pub publisher : q.publisher ≡ p.publisher

-- the act has this answer, and leads the node there
abbrev pub Steps : Server → Act → Result Reply Refusal → Option Server → Type 0
Steps s a answer node = (reply_to s (act_of a) ≡ reply_in reply_as answer) × (node ≡ Some (after s (act_of a)))

-- A step of an open desk: the act has this answer and leads the node there. The journal has the act at its end, the sent frames follow the
-- frames of the outbox, and the joined pieces are published.
pub record MovesOn (s : Server) (a : Act) (answer : Result Reply Refusal) (es : List Happening) (out : List Sent) (log : List Publication)
    (node : Option Server) (es' : List Happening) (out' : List Sent) (log' : List Publication) : Type 0 where
  pub steps : Steps s a answer node
  pub event : es' ≡ es ++ happened a answer ∷ []
  pub outbox : out' ≡ out ++ sent_by s (act_of a)
  pub published : log' ≡ log ++ published_by s (act_of a)

-- Such a step of a desk that may have no node: without a node no act is done.
abbrev pub StateGoesOn : Option Server → Act → Result Reply Refusal → List Happening → List Sent → List Publication → Option Server → List Happening → List Sent
    → List Publication → Type 0
StateGoesOn None a answer es out log left es' out' log' = ⊥
StateGoesOn (Some s) a answer es out log left es' out' log' = MovesOn s a answer es out log left es' out' log'

-- These frames were delivered, one after another: the journal has them at its end.
pub record HaveCome (frames : List Frame) (es es' : List Happening) : Type 0 where
  pub more : List Happening
  pub events : es' ≡ es ++ more
  pub acts : map (λ (e : Happening). e.act) more ≡ map ModelAct.deliver frames

-- The first of these frames were delivered.
abbrev pub SomeHaveCome : List Frame → List Happening → List Happening → Type 0
SomeHaveCome frames es es' = (come : List Frame) × IsPrefix come frames × HaveCome come es es'

-- A step of an open desk: the steps have at their end the node's step at the act.
pub record MovesSteps (s : Server) (a : Act) (answer : Result Reply Refusal) (xs xs' : List Step) : Type 0 where
  pub step : Step
  pub is_step : IsStep s (happened a answer) step
  pub steps : xs' ≡ xs ++ step ∷ []

-- Such a step of a desk that may have no node.
abbrev pub StepsGoOn : Option Server → Act → Result Reply Refusal → List Step → List Step → Type 0
StepsGoOn None a answer xs xs' = ⊥
StepsGoOn (Some s) a answer xs xs' = MovesSteps s a answer xs xs'
