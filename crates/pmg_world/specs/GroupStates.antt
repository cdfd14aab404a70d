-- The state of a group in code that keeps no events, and the effect of events on it.
use Rattle.std.specs.Prelude.{◌≡◌, ℕ, ◌<◌, List, ◌++◌, length, slice_index_or, refl}
use Rattle.std.specs.Coded.{Coded, code_by, coded×, coded_list, coded_ℕ}
use Rattle.std.specs.FinSet as set
use Rattle.std.specs.Ordering.{nat_cmp}
use Rattle.pmg_jobinfo.specs.Jobs.{Jobs, coded_jobs}
use Rattle.pmg_node.specs.Servers.{Server, coded_server}
use Rattle.pmg_node_model.specs.declared.sent.Sent.{Sent}
use Rattle.pmg_caches.specs.Caching.{AllCached, coded_all_cached}
use Rattle.pmg_group_model.specs.Lawful.{IsLawful}
use Rattle.pmg_group_model.specs.Worlds.{World, Happened, Run, start}
use Rattle.pmg_world.specs.Accounts.{IsLedBy}
use Rattle.pmg_world.specs.Delivering.{AddsDelivered, AreDelivered}
use Rattle.pmg_world.specs.Keeping.{AreCaches, IsNodeOf}
use Rattle.pmg_world.specs.declared.group.Group.{Group}

-- The state of a group. It has its jobs, its nodes in the order of their indexes, the contents of its clients' caches, all frames ever
-- sent, and the numbers of the delivered frames.
pub record GroupState : Type 0 where
  pub jobs : Jobs
  pub nodes : List Server
  pub caches : AllCached
  pub sent : List Sent
  pub delivered : set.FinSet nat_cmp

-- a group's state as a tuple, by the code of a sent frame
abbrev pub coded_group_state : Coded Sent → Coded GroupState
coded_group_state coded_sent =
    code_by (Jobs × (List Server × (AllCached × (List Sent × set.FinSet nat_cmp))))
    (coded× coded_jobs (coded× (coded_list coded_server) (coded× coded_all_cached (coded× (coded_list coded_sent) (set.code coded_ℕ)))))
    (λ s. (s.jobs, (s.nodes, (s.caches, (s.sent, s.delivered)))))
    (λ p. record { jobs = p.0; nodes = p.1.0; caches = p.1.1.0; sent = p.1.1.1.0; delivered = p.1.1.1.1 }) (λ _. refl)

-- the state of a group with these delivered frames
abbrev pub group_state : Group → set.FinSet nat_cmp → GroupState
group_state g delivered = record { jobs = g.registry; nodes = g.nodes.items; caches = g.caches; sent = g.sent.items; delivered = delivered }

-- The group represents a world to which some events lead from the start, and these are the frames that they delivered.
pub record IsPlayed (g : Group) (delivered : set.FinSet nat_cmp) : Type 0 where
  pub told : List Happened
  pub led : IsLedBy g told
  pub all : AreDelivered delivered told

-- The events lead from the start to the world, and the state is the world's: its nodes have these states, and its clients have these
-- caches. These frames are all sent frames, and the events delivered these frames.
pub record IsStateAfter (s : GroupState) (told : List Happened) (w : World) : Type 0 where
  pub run : Run s.jobs (start s.jobs) told w
  pub count : length s.nodes ≡ length s.jobs.nodes
  pub nodes : (node : ℕ) (d : Server) → node < length s.nodes → IsNodeOf s.jobs node (w.nodes node) (slice_index_or s.nodes node d)
  pub caches : AreCaches s.caches w.scripts
  pub sent : s.sent ≡ w.sent
  pub delivered : AreDelivered s.delivered told

-- some run of the model leads to the state
unfoldable pub IsReached : GroupState → Type 0
IsReached s = (told : List Happened) × (w : World) × IsStateAfter s told w

-- the laws of every run hold for each run that leads to the state, and for each prefix of it
unfoldable pub IsLawfulAt : GroupState → Type 0
IsLawfulAt s = (told : List Happened) (w : World) → IsStateAfter s told w → (xs ys : List Happened) → told ≡ xs ++ ys → IsLawful s.jobs xs

-- These events happen, with these replies, and lead from the old state to the new one. The new frames follow the sent ones, and the frames
-- that the events delivered join the delivered ones. Each run of the model that leads to the old state continues by the events, and then
-- leads to the new one. Some run does, and the laws of every run hold for each such run.
pub record Happen (old : GroupState) (happened : List Happened) (new : GroupState) : Type 0 where
  pub jobs : new.jobs ≡ old.jobs
  pub out : List Sent
  pub sent : new.sent ≡ old.sent ++ out
  pub delivered : AddsDelivered old.delivered happened new.delivered
  pub runs : (told : List Happened) (w : World) → IsStateAfter old told w
      → (v : World) × Run old.jobs w happened v × IsStateAfter new (told ++ happened) v
  pub reached : IsReached new
  pub lawful : IsLawfulAt new
