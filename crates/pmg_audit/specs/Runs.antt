-- The parts of a run, of journals and of transcripts for each node and each process.
use Rattle.std.specs.Prelude.{◌≡◌, ℕ, ◌<◌, ◌==◌, List, [], ◌∷◌, length, map, Option, Some, None, slice_index_or, if◌then◌else◌}
use Rattle.std.specs.List.{filter}
use Rattle.std.specs.Option.{option_map}
use Rattle.pmg_value.specs.Lists.{In, Each}
use Rattle.pmg_value.specs.declared.process.Proc.{Proc}
use Rattle.pmg_scope.specs.Cached.{no_puts, unsealed_of}
use Rattle.pmg_jobinfo.specs.Jobs.{Jobs, home_of}
use Rattle.pmg_fence.specs.Rules.{Scripts}
use Rattle.pmg_node_model.specs.Acts.{Act, Reply}
use Rattle.pmg_node_model.specs.Fitting.{is_refusal, unless_refused}
use Rattle.pmg_node_model.specs.declared.sent.Sent.{Sent}
use Rattle.pmg_node.specs.Opening.{new_server}
use Rattle.pmg_node.specs.Servers.{Server}
use Rattle.pmg_group_model.specs.Worlds.{Event, Happened, cache_of, numbered, said_in}
use Rattle.pmg_world.specs.Accounts.{Account}
use Rattle.pmg_world.specs.declared.event.LoggedEvent.{LoggedEvent}
use Rattle.pmg_journal.specs.Journals.{happened_in}
use Rattle.pmg_journal.specs.Replays.{Happening, happening}
use Rattle.pmg_journal.specs.declared.journal.Journal.{Journal}
use Rattle.pmg_journal.specs.declared.transcript.Transcript.{Transcript}
use Rattle.pmg_audit.specs.Dues.{due_event, dues_of}
use Rattle.pmg_audit.specs.Moves.{Move, PutsFit, Replays, server_after, event_in}
use Rattle.pmg_audit.specs.Orders.{moves_at}
use Rattle.pmg_journal.specs.Calling.{is_by}

-- ---- the events of a run at its nodes

-- The node of an event, and its event in the journal; a put has no node. A commit carries its process's puts that no commit sealed.
abbrev pub place_of : Scripts → List Sent → Event → Reply → Option (ℕ × Happening)
place_of scripts frames (Event.put p scope key value) r = None
place_of scripts frames (Event.commit node p) r = Some (node, happening (Act.commit p (unsealed_of (cache_of (scripts p)))) r)
place_of scripts frames (Event.request node q) r = Some (node, happening (Act.request q) r)
place_of scripts frames (Event.deliver i) r = option_map (λ s. (s.to, happening (Act.deliver s.frame) r)) (numbered frames i)

-- the events at the node, with this one in front if it is at the node
abbrev pub with_place : ℕ → Option (ℕ × Happening) → List Happening → List Happening
with_place n None es = es
with_place n (Some x) es = if n == x.0 then x.1 ∷ es else es

-- the events at the node, in their order
unfoldable pub events_at : Jobs → Scripts → List Sent → ℕ → List Happened → List Happening
events_at jobs scripts frames n [] = []
events_at jobs scripts frames n (x ∷ xs) =
    with_place n (place_of scripts frames x.event x.reply) (events_at jobs (unless_refused (is_refusal x.reply) scripts (said_in jobs x.event)) frames n xs)

-- ---- journals

-- the events of the node's journal
abbrev pub journal_at : List Journal → ℕ → List Happening
journal_at [] n = []
journal_at (j ∷ js) n = if j.node == n then happened_in j else journal_at js n

-- one of the journals is the node's
abbrev pub HasJournal : List Journal → ℕ → Type 0
HasJournal js n = (j : Journal) × In j js × (j.node ≡ n)

-- one journal for each node of the group
pub record AreJournals (jobs : Jobs) (js : List Journal) : Type 0 where
  pub count : length js ≡ length jobs.nodes
  pub same : Each (λ (j : Journal). j.registry ≡ jobs) js
  pub there : (n : ℕ) → n < length jobs.nodes → HasJournal js n

-- ---- transcripts

-- the events of the process at its home
abbrev pub made_by : Jobs → List Journal → Proc → List Happening
made_by jobs js p = filter (λ e. is_by p e.act) (journal_at js (home_of jobs p))

-- the transcript's events are the events of its process at its home
abbrev pub TellsOf : Jobs → List Journal → Transcript → Type 0
TellsOf jobs js t = map due_event (dues_of t) ≡ made_by jobs js t.proc

-- ---- moves

-- the moves are the replayed journals
pub record AreMoves (jobs : Jobs) (js : List Journal) (all : List (List Move)) : Type 0 where
  pub count : length all ≡ length jobs.nodes
  pub events : (n : ℕ) → n < length jobs.nodes → map event_in (moves_at all n) ≡ journal_at js n
  pub replays : (n : ℕ) → n < length jobs.nodes → Replays (new_server jobs n) (moves_at all n)

-- the puts before the moves fit their clients' caches, and commits carry them
unfoldable pub ArePut : Jobs → List (List Move) → Type 0
ArePut jobs all = (p : Proc) → PutsFit p no_puts (moves_at all (home_of jobs p))

-- these are the nodes after all moves
pub record AreEnds (jobs : Jobs) (all : List (List Move)) (nodes : List Server) : Type 0 where
  pub count : length nodes ≡ length jobs.nodes
  pub each : (n : ℕ) (d : Server) → n < length nodes → slice_index_or nodes n d ≡ server_after (new_server jobs n) (moves_at all n)

-- ---- one run

-- a world in code of these jobs, nodes, frames and events
abbrev pub account_by : Jobs → List Server → List Sent → List LoggedEvent → Account
account_by jobs nodes frames told = record { jobs = jobs; nodes = nodes; sent = frames; told = told }
