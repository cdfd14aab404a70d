-- The laws of every list of events.
use Rattle.std.specs.Prelude.{◌≡◌, ℕ, ◌≤◌, true, ◌&&◌, List, [], ◌∷◌, Option, Some, None, if◌then◌else◌}
use Rattle.std.specs.Option.{option_map}
use Rattle.pmg_value.specs.Lists.{In, Each}
use Rattle.pmg_value.specs.Signatures.{FenceName}
use Rattle.pmg_value.specs.declared.process.Proc.{Proc}
use Rattle.pmg_value.specs.declared.refusal.Refusal.TheVariants as refusals
use Rattle.pmg_scope.specs.Scripts.{Script, commits, value_at}
use Rattle.pmg_scope.specs.declared.scope.Reach.TheVariants as reach
use Rattle.pmg_commit.specs.Data.{Data, level_at}
use Rattle.pmg_pset.specs.Sets.{host}
use Rattle.pmg_frame.specs.Fences.{Header, participants_of}
use Rattle.pmg_frame.specs.declared.frame.Frame.TheVariants as frames
use Rattle.pmg_jobinfo.specs.Jobs.{Jobs, AreJobs}
use Rattle.pmg_fence.specs.Entering.{same_proc, entry}
use Rattle.pmg_fence.specs.Rules.{Scripts, gone_of}
use Rattle.pmg_fence.specs.declared.entry.Entry.{Entry}
use Rattle.pmg_get.specs.Gets.{Seen, Outcome, resolve, later_as}
use Rattle.pmg_get.specs.declared.view.Mode.{Mode}
use Rattle.pmg_node_model.specs.Acts.{Request, Reply}
use Rattle.pmg_node_model.specs.Fitting.{Fits, HonestFrame, FitsHost}
use Rattle.pmg_node_model.specs.Holdings.{Get, CallState, NodeState, call_of, seen_of}
use Rattle.pmg_node_model.specs.Kept.{HasTwo}
use Rattle.pmg_node_model.specs.Sending.{sent}
use Rattle.pmg_group_model.specs.Worlds.{World, Event, Step, Happened, Run, start, scripts_after}

-- ---- the gets of one process, by the events with their replies

-- a get that was answered: the get, its mode, and the outcome
pub record Answer : Type 0 where
  pub get : Get
  pub mode : Mode
  pub outcome : Outcome

-- a get that waits
pub record Wanted : Type 0 where
  pub get : Get
  pub mode : Mode

-- the outcome for a key in a reply, if any
abbrev pub reply_outcome : Reply → Option Outcome
reply_outcome (Reply.found value) = Some (Outcome.found value)
reply_outcome (Reply.refused refusals.NotFound) = Some Outcome.absent
reply_outcome (Reply.refused refusals.OutsideScope) = Some Outcome.outside
reply_outcome _ = None

-- the get waits if the reply is `parked`
abbrev pub waiting_as : Wanted → Reply → Option Wanted → Option Wanted
waiting_as wanted Reply.parked before = Some wanted
waiting_as wanted _ before = before

-- no get waits after its answer was taken
abbrev pub unless_taken : Option Outcome → Option Wanted → Option Wanted
unless_taken None before = before
unless_taken (Some outcome) before = None

-- no get waits after its process ended
abbrev pub unless_ended : Reply → Option Wanted → Option Wanted
unless_ended (Reply.ended n) before = None
unless_ended _ before = before

-- the get of p that waits after the request has this reply
abbrev pub wanted_by : Proc → Request → Reply → Option Wanted → Option Wanted
wanted_by p (Request.ask by get mode) r before = if same_proc p by then waiting_as (record { get = get; mode = mode }) r before else before
wanted_by p (Request.take by) r before = if same_proc p by then unless_taken (reply_outcome r) before else before
wanted_by p (Request.terminate by) r before = if same_proc p by then unless_ended r before else before
wanted_by p _ r before = before

-- the get of p that waits after the event has this reply
abbrev pub wanted_after : Proc → Event → Reply → Option Wanted → Option Wanted
wanted_after p (Event.request node request) r before = wanted_by p request r before
wanted_after p _ r before = before

-- an answer with this get, mode and outcome
abbrev pub answer_as : Get → Mode → Outcome → Answer
answer_as get mode outcome = record { get = get; mode = mode; outcome = outcome }

-- the answer that p takes of a waiting get with target q
abbrev pub taken_answer : Proc → Option Wanted → Option Outcome → Option Answer
taken_answer q None outcome = None
taken_answer q (Some wanted) outcome = if same_proc q wanted.get.target then option_map (answer_as wanted.get (later_as wanted.mode)) outcome else None

-- the answer of a get of p with target q, by a request and its reply
abbrev pub answer_of : Proc → Proc → Request → Reply → Option Wanted → Option Answer
answer_of p q (Request.ask by get mode) r before = if same_proc p by && same_proc q get.target then option_map (answer_as get mode) (reply_outcome r) else None
answer_of p q (Request.take by) r before = if same_proc p by then taken_answer q before (reply_outcome r) else None
answer_of p q _ r before = None

-- the answer of a get of p with target q, by an event and its reply
abbrev pub answer_by : Proc → Proc → Event → Reply → Option Wanted → Option Answer
answer_by p q (Event.request node request) r before = answer_of p q request r before
answer_by p q _ r before = None

-- the answer in front of the others, if there is one
abbrev pub with_answer : Option Answer → List Answer → List Answer
with_answer None others = others
with_answer (Some a) others = a ∷ others

-- all answers of p's gets of q, in their order
abbrev pub answers : Proc → Proc → Option Wanted → List Happened → List Answer
answers p q before [] = []
answers p q before (x ∷ xs) = with_answer (answer_by p q x.event x.reply before) (answers p q (wanted_after p x.event x.reply before) xs)

-- the view of another process's key at the node, after the process made n commits
abbrev pub seen_at : Jobs → ℕ → Script → ℕ → Get → Seen
seen_at jobs node s n get = seen_of jobs node (value_at s n reach.Near) (value_at s n reach.Far) get

-- Each answer is the read of the state after some commit of the process, and the commit numbers never fall, from n on.
unfoldable pub AnswersRise : Jobs → ℕ → Script → ℕ → List Answer → Type 0
AnswersRise jobs node s n [] = Unit {0}
AnswersRise jobs node s n (a ∷ others) =
    (m : ℕ) × (n ≤ m) × (m ≤ commits s) × (a.outcome ≡ resolve (seen_at jobs node s m a.get) a.mode) × AnswersRise jobs node s m others

-- ---- the invariant of every step

-- The condition of a release from a fence. Each participant has entered or is gone, and `gone` lists exactly the gone ones. If the fence
-- collects data, the node knows all commits of each participant up to its entry or end.
pub record WasReady (scripts : Scripts) (far : Data) (f : FenceName) (gone : List Proc) : Type 0 where
  pub gone_are : gone ≡ gone_of scripts f
  pub covered : (q : Proc) → In q (participants_of f) → (e : Entry) × (entry (scripts q) f ≡ Some e) × (f.signature.collect ≡ true → e.level ≤ level_at far q)

-- each released process satisfies the condition of its release
abbrev pub FreedRight : Scripts → NodeState → Type 0
FreedRight scripts h = (p : Proc) (f : FenceName) (gone : List Proc) → call_of h p ≡ Some (CallState.released f gone) → WasReady scripts h.far f gone

-- The invariant of a world. The state of each node and each frame that was ever sent fit the scripts. The host's process only
-- changes the sets. Each release satisfies its condition. Each node keeps at most two instances of a signature.
pub record Good (jobs : Jobs) (w : World) : Type 0 where
  pub fits : (node : ℕ) → Fits jobs w.scripts node (w.nodes node)
  pub honest : Each (λ s. HonestFrame jobs w.scripts s.frame) w.sent
  pub hosts : FitsHost (w.scripts host)
  pub freed : (node : ℕ) → FreedRight w.scripts (w.nodes node)
  pub kept : (node : ℕ) → HasTwo (w.nodes node).table

-- The invariant holds in each world that a run from the start reaches.
abbrev pub AlwaysGood : Type 0
AlwaysGood = (jobs : Jobs) → AreJobs jobs → (xs : List Happened) (w : World) → Run jobs (start jobs) xs w → Good jobs w

-- The scripts of a world are the scripts that its events produce.
abbrev pub ScriptsAreTold : Type 0
ScriptsAreTold = (jobs : Jobs) (w : World) (xs : List Happened) (v : World) → Run jobs w xs v → v.scripts ≡ scripts_after jobs w.scripts xs

-- Each node sends only one header for a fence: all its headers for the fence have equal lines.
abbrev pub OneHeader : Type 0
OneHeader =
    (jobs : Jobs) → AreJobs jobs → (xs : List Happened) (w : World) → Run jobs (start jobs) xs w
    → (a b : Header) (m n : ℕ) → In (sent m (frames.Header a)) w.sent → In (sent n (frames.Header b)) w.sent → a.name ≡ b.name → a.node ≡ b.node → a.locals ≡ b.locals

-- the process leaves its fence; the reply has this instance and these gone participants
abbrev pub Leaves : Jobs → World → Proc → ℕ → List Proc → World → Type 0
Leaves jobs w p k gone v = (node : ℕ) × Step jobs w (Event.request node (Request.leave p)) (Reply.released k gone) v
