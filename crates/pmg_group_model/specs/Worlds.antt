-- The world: the scripts of all processes, the state of each node, and all frames ever sent; its steps, and its runs.
use Rattle.std.specs.Prelude.{◌≡◌, ℕ, zero, suc, Bool, false, ◌==◌, ◌&&◌, not, List, [], ◌∷◌, ◌++◌, Option, Some, None, Result, Ok, Err, if◌then◌else◌}
use Rattle.pmg_value.specs.CheckOrder.{first_of}
use Rattle.pmg_value.specs.Names.{is_reserved}
use Rattle.pmg_value.specs.declared.process.Proc.{Proc}
use Rattle.pmg_value.specs.declared.refusal.Refusal.{Refusal}
use Rattle.pmg_value.specs.declared.refusal.Refusal.TheVariants as refusals
use Rattle.pmg_scope.specs.Cached.{Cached, no_puts, with_put, after_commit, unsealed_of, put_cause}
use Rattle.pmg_scope.specs.Scripts.{Call, Script, last_put}
use Rattle.pmg_scope.specs.declared.scope.Reach.TheVariants as reach
use Rattle.pmg_scope.specs.declared.scope.Scope.{Scope}
use Rattle.pmg_jobinfo.specs.Jobs.{Jobs, is_node, home_of}
use Rattle.pmg_jobinfo.specs.Reserved.{is_general}
use Rattle.pmg_fence.specs.Entering.{same_proc}
use Rattle.pmg_fence.specs.Rules.{Scripts}
use Rattle.pmg_get.specs.Gets.{Seen, resolve}
use Rattle.pmg_get.specs.declared.view.Mode.{Mode}
use Rattle.pmg_node_model.specs.Acts.{Request, Act, Reply, Said, also, free_cause, reply_of, said_by, says}
use Rattle.pmg_node_model.specs.Fitting.{is_refusal, unless_refused}
use Rattle.pmg_node_model.specs.Holdings.{Get, NodeState, new_holding}
use Rattle.pmg_node_model.specs.Sending.{NodeStep}
use Rattle.pmg_node_model.specs.declared.sent.Sent.{Sent}

-- ---- a client's cache

-- the client's cache after these calls, from this cache
abbrev pub cache_from : Cached → Script → Cached
cache_from c [] = c
cache_from c (Call.put scope key value ∷ cs) = cache_from (with_put c scope key value) cs
cache_from c (Call.commit ∷ cs) = cache_from (after_commit c) cs
cache_from c (Call.enter g ∷ cs) = cache_from c cs
cache_from c (Call.terminate ∷ cs) = cache_from c cs

-- the client's cache after these calls of its process
unfoldable pub cache_of : Script → Cached
cache_of s = cache_from no_puts s

-- ---- the world

-- The calls of each process, the state of each node by its index, and all frames ever sent. A frame has the node that it was sent to.
pub record World : Type 0 where
  pub scripts : Scripts
  pub nodes : ℕ → NodeState
  pub sent : List Sent

-- the initial world: no process has called, and no frame was sent
abbrev pub start : Jobs → World
start jobs = record { scripts = λ _. []; nodes = λ node. new_holding jobs node; sent = [] }

-- An event: a put of a process; its commit, at a node; a request, at a node; or the delivery of a frame, by its number among all frames
-- ever sent, from 1. A frame may be delivered at any time, repeatedly, or never.
pub data Event : Type 0 where
  put : Proc → Scope → List ℕ → List ℕ → Event
  commit : ℕ → Proc → Event
  request : ℕ → Request → Event
  deliver : ℕ → Event

-- the effect of an event: an act of a node; or a call that only the client's cache answers, with the calls that it adds to the script
pub data Doing : Type 0 where
  at_node : ℕ → Act → Doing
  by_cache : Result Reply Refusal → Option Said → Doing

-- there is no such node or frame
abbrev pub not_there : Doing
not_there = Doing.by_cache (Err refusals.BadParam) None

-- the effect at the node, if there is such a node
abbrev pub if_node : Jobs → ℕ → Doing → Doing
if_node jobs node doing = if is_node jobs node then doing else not_there

-- the process has no particular rank
abbrev pub rank_cause : Proc → Refusal → Bool
rank_cause p refusals.BadParam = is_general p
rank_cause p _ = false

-- the causes to refuse a get of the caller's own key
abbrev pub own_cause : Jobs → ℕ → NodeState → Proc → Refusal → Bool
own_cause jobs node h p = also (free_cause jobs node h p) (rank_cause p)

-- a get of the caller's own key is answered with the caller's own last put
abbrev pub own_get : Jobs → World → ℕ → Proc → List ℕ → Mode → Doing
own_get jobs w node p key mode =
    Doing.by_cache (first_of (own_cause jobs node (w.nodes node) p) (reply_of (resolve (Seen.own (last_put reach.Own key (w.scripts p))) mode))) None

-- a process gets a key of its own that the standard does not reserve
abbrev pub is_own : Proc → Get → Bool
is_own p get = same_proc p get.target && not (is_reserved get.key)

-- the effect of a request: the cache answers a get of the caller's own key, and any other request is an act of the node
abbrev pub requests : Jobs → World → ℕ → Request → Doing
requests jobs w node (Request.ask p get mode) = if is_own p get then own_get jobs w node p get.key mode else Doing.at_node node (Act.request (Request.ask p get mode))
requests jobs w node r = Doing.at_node node (Act.request r)

-- the item of that number, from 0
abbrev pub nth : {A : Type 0} → List A → ℕ → Option A
nth [] i = None
nth (x ∷ xs) zero = Some x
nth (x ∷ xs) (suc i) = nth xs i

-- the item of that number, from 1
abbrev pub numbered : {A : Type 0} → List A → ℕ → Option A
numbered xs zero = None
numbered xs (suc i) = nth xs i

-- the effect of a delivery: an act of the node that the frame was sent to, if there is such a frame
abbrev pub delivers : Option Sent → Doing
delivers None = not_there
delivers (Some s) = Doing.at_node s.to (Act.deliver s.frame)

-- a put is refused if its caller has a cause, or if the cache has one
abbrev pub puts : Jobs → World → Proc → Scope → List ℕ → List ℕ → Doing
puts jobs w p scope key value =
    Doing.by_cache
    (first_of (also (free_cause jobs (home_of jobs p) (w.nodes (home_of jobs p)) p) (put_cause (cache_of (w.scripts p)) scope key value)) Reply.done)
    (said_by p (Call.put scope key value ∷ []))

-- the effect of an event in that world
unfoldable pub doing : Jobs → World → Event → Doing
doing jobs w (Event.put p scope key value) = puts jobs w p scope key value
doing jobs w (Event.commit node p) = if_node jobs node (Doing.at_node node (Act.commit p (unsealed_of (cache_of (w.scripts p)))))
doing jobs w (Event.request node r) = if_node jobs node (requests jobs w node r)
doing jobs w (Event.deliver i) = delivers (numbered w.sent i)

-- ---- steps

-- the states of all nodes, after this node changes to this state
abbrev pub with_holding_at : (ℕ → NodeState) → ℕ → NodeState → ℕ → NodeState
with_holding_at nodes node h m = if m == node then h else nodes m

-- An act of one node in the world: the node's new state, the frames that it sends, and the calls that the act adds to the scripts.
pub record ActStep (jobs : Jobs) (w : World) (node : ℕ) (a : Act) (r : Reply) (v : World) : Type 0 where
  pub new : NodeState
  pub out : List Sent
  pub step : NodeStep jobs node (w.nodes node) a r new out
  pub left : v ≡ record { scripts = unless_refused (is_refusal r) w.scripts (says jobs a); nodes = with_holding_at w.nodes node new; sent = w.sent ++ out }

-- the answer as a reply
abbrev pub reply_or_refusal : Result Reply Refusal → Reply
reply_or_refusal (Ok r) = r
reply_or_refusal (Err e) = Reply.refused e

-- A call that only its client's cache answers.
pub record CacheStep (w : World) (answer : Result Reply Refusal) (said : Option Said) (r : Reply) (v : World) : Type 0 where
  pub replied : r ≡ reply_or_refusal answer
  pub left : v ≡ record { scripts = unless_refused (is_refusal r) w.scripts said; nodes = w.nodes; sent = w.sent }

-- the effect has this reply, and leads to this world
abbrev pub Does : Jobs → World → Doing → Reply → World → Type 0
Does jobs w (Doing.at_node node a) r v = ActStep jobs w node a r v
Does jobs w (Doing.by_cache answer said) r v = CacheStep w answer said r v

-- One step of the world: the event has this reply, and leads to this world.
abbrev pub Step : Jobs → World → Event → Reply → World → Type 0
Step jobs w e r v = Does jobs w (doing jobs w e) r v

-- an event, with its reply
pub record Happened : Type 0 where
  pub event : Event
  pub reply : Reply

-- These events with these replies lead from the one world to the other.
unfoldable pub Run : Jobs → World → List Happened → World → Type 0
Run jobs w [] v = v ≡ w
Run jobs w (x ∷ xs) v = (mid : World) × Step jobs w x.event x.reply mid × Run jobs mid xs v

-- ---- scripts, by the events

-- the calls that an event adds to a script, unless it is refused
abbrev pub said_in : Jobs → Event → Option Said
said_in jobs (Event.put p scope key value) = said_by p (Call.put scope key value ∷ [])
said_in jobs (Event.commit node p) = said_by p (Call.commit ∷ [])
said_in jobs (Event.request node r) = says jobs (Act.request r)
said_in jobs (Event.deliver i) = None

-- the scripts after these events with their replies
abbrev pub scripts_after : Jobs → Scripts → List Happened → Scripts
scripts_after jobs scripts [] = scripts
scripts_after jobs scripts (x ∷ xs) = scripts_after jobs (unless_refused (is_refusal x.reply) scripts (said_in jobs x.event)) xs
