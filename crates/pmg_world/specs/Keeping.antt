-- The worlds that a group of nodes in code represents, and the effect of an event on them.
use Rattle.std.specs.Prelude.{◌≡◌, ℕ, ◌<◌, true, false, List, length, Result, slice_index_or}
use Rattle.pmg_value.specs.Lists.{Each}
use Rattle.pmg_value.specs.Names.{is_reserved}
use Rattle.pmg_value.specs.declared.process.Proc.{Proc}
use Rattle.pmg_value.specs.declared.refusal.Refusal.{Refusal}
use Rattle.pmg_scope.specs.Cached.{Cached, no_puts, unsealed_of}
use Rattle.pmg_scope.specs.Scripts.{Script}
use Rattle.pmg_jobinfo.specs.Jobs.{Jobs, AreJobs, is_node}
use Rattle.pmg_fence.specs.Rules.{Scripts}
use Rattle.pmg_node.specs.Acting.{reply_as}
use Rattle.pmg_node_model.specs.Acts.{Reply}
use Rattle.pmg_node_model.specs.Holdings.{NodeState}
use Rattle.pmg_node_model.specs.Kept.{IsServer}
use Rattle.pmg_node.specs.Opening.{new_server}
use Rattle.pmg_node.specs.Servers.{Server, IsAnswered, reply_in}
use Rattle.pmg_node.specs.declared.act.Reply.{Reply as GivenReply}
use Rattle.pmg_caches.specs.Caching.{AllCached, cached_for}
use Rattle.pmg_group_model.specs.Worlds.{World, Event, Happened, Step, cache_of}
use Rattle.pmg_world.specs.declared.group.Group.{Group}

-- The state kept for a process is its client's cache. The standard's own processes have an empty cache, and no unsealed put.
pub record KeepsFor (p : Proc) (c : Cached) (s : Script) : Type 0 where
  pub client : is_reserved p.nspace ≡ false → c ≡ cache_of s
  pub none : is_reserved p.nspace ≡ true → c ≡ no_puts
  pub sealed : is_reserved p.nspace ≡ true → unsealed_of (cache_of s) ≡ unsealed_of no_puts

-- each process's cache belongs to its script
abbrev pub AreCaches : AllCached → Scripts → Type 0
AreCaches caches scripts = (p : Proc) → KeepsFor p (cached_for caches p) (scripts p)

-- the server is the server of the node, and has this state
pub record IsNodeOf (jobs : Jobs) (node : ℕ) (h : NodeState) (s : Server) : Type 0 where
  pub jobs_same : s.jobs ≡ jobs
  pub id_same : s.id ≡ node
  pub holds : s.holding ≡ h

-- the servers are the servers of all nodes, in their order, and have these states
pub record AreNodes (jobs : Jobs) (items : List Server) (nodes : ℕ → NodeState) : Type 0 where
  pub count : length items ≡ length jobs.nodes
  pub each : (node : ℕ) (d : Server) → node < length items → IsNodeOf jobs node (nodes node) (slice_index_or items node d)
  pub servers : (node : ℕ) → node < length items → IsServer jobs node (nodes node)

-- The group represents the world: its nodes have their states there, and its clients' caches belong to the scripts. Its frames are the
-- sent frames, each to a node of the group.
pub record Represents (g : Group) (w : World) : Type 0 where
  pub jobs : AreJobs g.registry
  pub nodes : AreNodes g.registry g.nodes.items w.nodes
  pub caches : AreCaches g.caches w.scripts
  pub sent : g.sent.items ≡ w.sent
  pub peers : Each (λ s. is_node g.registry s.to ≡ true) g.sent.items

-- two groups with equal contents
pub record IsSame (old new : Group) : Type 0 where
  pub jobs : new.registry ≡ old.registry
  pub nodes : new.nodes.items ≡ old.nodes.items
  pub caches : new.caches ≡ old.caches
  pub sent : new.sent.items ≡ old.sent.items

-- the group represents some world
unfoldable pub IsGroup : Group → Type 0
IsGroup g = (w : World) × Represents g w

-- the answer, as a reply
abbrev pub replied : Result GivenReply Refusal → Reply
replied answer = reply_in reply_as answer

-- an event, with its answer as its reply
abbrev pub happened_so : Event → Result GivenReply Refusal → Happened
happened_so e answer = record { event = e; reply = replied answer }

-- For each world that the old group represents: the event leads from it, with that answer, to a world that the new group represents.
unfoldable pub Happens : Group → Event → Result GivenReply Refusal → Group → Type 0
Happens old e answer new =
    IsAnswered answer → (new.registry ≡ old.registry) × ((w : World) → Represents old w → (v : World) × Step old.registry w e (replied answer) v × Represents new v)

-- ---- a new group

-- these are new servers, of so many nodes
pub record AreNew (jobs : Jobs) (count : ℕ) (servers : List Server) : Type 0 where
  pub count_is : length servers ≡ count
  pub each : (node : ℕ) (d : Server) → node < count → slice_index_or servers node d ≡ new_server jobs node
