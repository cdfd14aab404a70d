-- States and the places of their desks.
use Rattle.std.proofs.Common.{◌≡◌, ℕ, List, refl, subst, ◌∙◌}
use Rattle.pmg_value.specs.declared.process.Proc.{Proc}
use Rattle.pmg_jobinfo.specs.Jobs.{Jobs}
use Rattle.pmg_node_model.specs.Acts.{Act, Reply}
use Rattle.pmg_node_model.specs.Kept.{IsOwn}
use Rattle.pmg_node_model.specs.declared.sent.Sent.{Sent}
use Rattle.pmg_publish.specs.declared.counting.Publication.{Publication}
use Rattle.pmg_desk.specs.Places.{LiesAt}
use Rattle.pmg_journal.specs.Replays.{Happening}
use Rattle.pmg_desk.specs.States.{IsAt}
use Rattle.pmg_desk.specs.Telling.{IsKnown, WasFarDump, WasReplied, WasSent}
use Rattle.pmg_desk.specs.declared.lock.Place.{Place}
use Rattle.pmg_desk.specs.declared.state.Parts.{Parts}

-- the same desk, further on
pub at_same : (s : Parts) → IsAt s s
at_same s = record { node = refl; registry = refl; list = refl; book = refl; taken = refl }

pub at_on : (s t u : Parts) → IsAt s t → IsAt t u → IsAt s u
at_on s t u at on = record { node = on.node ∙ at.node; registry = on.registry ∙ at.registry; list = on.list ∙ at.list; book = on.book ∙ at.book; taken = on.taken ∙ at.taken }

-- a state lies where it lay, whatever happens
pub lies_on : (p : Place) (s t : Parts) → IsAt s t → LiesAt p s → LiesAt p t
lies_on p s t at lies = record { node = at.node ∙ lies.node; registry = at.registry ∙ lies.registry; list = at.list ∙ lies.list; start = lies.start; book = at.book ∙ lies.book; is_node = lies.is_node }

-- also where its journal, its list and its publisher are the same
pub lies_same : (p : Place) (s t : Parts) → t.journal ≡ s.journal → t.list ≡ s.list → t.publisher ≡ s.publisher → LiesAt p s → LiesAt p t
lies_same p s t journal list publisher lies = record {
  node = (λ i. (journal i).node) ∙ lies.node;
  registry = (λ i. (journal i).registry) ∙ lies.registry;
  list = (λ i. (list i).book) ∙ lies.list;
  start = lies.start;
  book = (λ i. (publisher i).book) ∙ lies.book;
  is_node = lies.is_node;
}

-- what holds of the state's group and node holds of its desk's
module _ (p : Place) (s : Parts) (lies : LiesAt p s) where
  at_place : (P : Jobs → ℕ → Type 0) → P s.journal.registry s.journal.node → P p.registry p.node
  at_place P is = subst (P p.registry) lies.node (subst (λ (j : Jobs). P j s.journal.node) lies.registry is)

  pub known_at : (es : List Happening) (known : List Publication) → IsKnown s.journal.registry s.journal.node es known → IsKnown p.registry p.node es known
  known_at es known knows = at_place (λ j n. IsKnown j n es known) knows

  pub replied_at : (a : Act) (r : Reply) → WasReplied s.journal.registry s.journal.node a r → WasReplied p.registry p.node a r
  replied_at a r replied = at_place (λ j n. WasReplied j n a r) replied

  pub sent_at : (frames : List Sent) → WasSent s.journal.registry s.journal.node frames → WasSent p.registry p.node frames
  sent_at frames sent = at_place (λ j n. WasSent j n frames) sent

  pub dumped_at : (text : List ℕ) → WasFarDump s.journal.registry s.journal.node text → WasFarDump p.registry p.node text
  dumped_at text dumped = at_place (λ j n. WasFarDump j n text) dumped

  pub own_at : (q : Proc) → IsOwn s.journal.registry s.journal.node q → IsOwn p.registry p.node q
  own_at q own = at_place (λ j n. IsOwn j n q) own
