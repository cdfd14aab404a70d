-- The account of a world in code.
use Rattle.std.specs.Prelude.{◌≡◌, ℕ, ◌<◌, List, ◌++◌, length, map, slice_index_or, refl}
use Rattle.std.specs.Coded.{Coded, code_by, coded×, coded_list}
use Rattle.pmg_jobinfo.specs.Jobs.{Jobs, coded_jobs}
use Rattle.pmg_node.specs.Servers.{Server, coded_server}
use Rattle.pmg_node_model.specs.declared.sent.Sent.{Sent}
use Rattle.pmg_world.specs.Keeping.{IsNodeOf, Represents}
use Rattle.pmg_group_model.specs.Lawful.{IsLawful}
use Rattle.pmg_world.specs.Telling.{event_of, happened_of}
use Rattle.pmg_group_model.specs.Worlds.{World, Happened, Run, start}
use Rattle.pmg_world.specs.declared.event.Event.{Event as ToldEvent}
use Rattle.pmg_world.specs.declared.event.LoggedEvent.{LoggedEvent}
use Rattle.pmg_world.specs.declared.group.Group.{Group}

-- A world in code: the jobs of its group, its nodes in the order of their indexes, all frames ever sent, and all events with their
-- answers.
pub record Account : Type 0 where
  pub jobs : Jobs
  pub nodes : List Server
  pub sent : List Sent
  pub told : List LoggedEvent

-- a world in code as a tuple, by the codes of a sent frame and of an event with its answer
abbrev pub coded_account : Coded Sent → Coded LoggedEvent → Coded Account
coded_account coded_sent coded_told =
    code_by (Jobs × (List Server × (List Sent × List LoggedEvent))) (coded× coded_jobs (coded× (coded_list coded_server) (coded× (coded_list coded_sent) (coded_list coded_told))))
    (λ a. (a.jobs, (a.nodes, (a.sent, a.told)))) (λ p. record { jobs = p.0; nodes = p.1.0; sent = p.1.1.0; told = p.1.1.1 }) (λ _. refl)

-- the account of a group, with these events
abbrev pub account_of : Group → List LoggedEvent → Account
account_of g told = record { jobs = g.registry; nodes = g.nodes.items; sent = g.sent.items; told = told }

-- the events lead from the start to a world that the group represents
unfoldable pub IsLedBy : Group → List Happened → Type 0
IsLedBy g told = (w : World) × Run g.registry (start g.registry) told w × Represents g w

-- the recorded events lead to such a world
abbrev pub IsLed : Group → List LoggedEvent → Type 0
IsLed g told = IsLedBy g (map happened_of told)

-- The recorded events lead from the start to the world. Its nodes have the states of these nodes, and these frames are all sent frames.
pub record LeadsTo (a : Account) (w : World) : Type 0 where
  pub run : Run a.jobs (start a.jobs) (map happened_of a.told) w
  pub count : length a.nodes ≡ length a.jobs.nodes
  pub nodes : (node : ℕ) (d : Server) → node < length a.nodes → IsNodeOf a.jobs node (w.nodes node) (slice_index_or a.nodes node d)
  pub sent : a.sent ≡ w.sent

-- the recorded events are a run of the model
unfoldable pub IsRun : Account → Type 0
IsRun a = (w : World) × LeadsTo a w

-- the laws of every run hold for the recorded events, and for each prefix of them
unfoldable pub IsAccountLawful : Account → Type 0
IsAccountLawful a = (xs ys : List Happened) → map happened_of a.told ≡ xs ++ ys → IsLawful a.jobs xs

-- the events recorded before, and these events, each once and in their order, each with its answer
unfoldable pub Adds : List LoggedEvent → List ToldEvent → List LoggedEvent → Type 0
Adds old events new = (more : List LoggedEvent) × (new ≡ old ++ more) × (map (λ t. event_of t.event) more ≡ map event_of events)

-- The new world continues the old one: its events extend the old events, and its sent frames extend the old frames. Each run of the model
-- that led to the old world continues by the new events, and then leads to the new world.
pub record GoesOn (old new : Account) : Type 0 where
  pub more : List LoggedEvent
  pub told : new.told ≡ old.told ++ more
  pub out : List Sent
  pub sent : new.sent ≡ old.sent ++ out
  pub runs : (w : World) → LeadsTo old w → (v : World) × Run old.jobs w (map happened_of more) v × LeadsTo new v
