-- The laws of every act of a node.
use Rattle.std.specs.Prelude.{◌≡◌, ◌⊎◌, ℕ, ◌≤◌, true, false, List, Option, Some, None}
use Rattle.pmg_value.specs.Signatures.{Signature, FenceName}
use Rattle.pmg_value.specs.declared.process.Proc.{Proc}
use Rattle.pmg_pset.specs.Sets.{host}
use Rattle.pmg_frame.specs.Refreshing.{RefreshReply}
use Rattle.pmg_frame.specs.declared.frame.Frame.TheVariants as frames
use Rattle.pmg_jobinfo.specs.Jobs.{Jobs, AreJobs, home_of}
use Rattle.pmg_fence.specs.Rules.{Scripts}
use Rattle.pmg_fence.specs.Changes.{next_name}
use Rattle.pmg_fence.specs.Tables.{has_name, is_old, fence_of, gone_by}
use Rattle.pmg_dmodex.specs.Levels.{node_level as held_at}
use Rattle.pmg_get.specs.Gets.{Outcome}
use Rattle.pmg_get.specs.declared.view.Mode.TheVariants as modes
use Rattle.pmg_node_model.specs.Acts.{Request, Act, signature_of, is_peer, is_taken, says, acts}
use Rattle.pmg_node_model.specs.Fitting.{Fits, FitsAct, FitsHost, is_refusal, unless_refused}
use Rattle.pmg_node_model.specs.Holdings.{Get, CallState, NodeState, call_of, is_ready_at, answer_in}
use Rattle.pmg_node_model.specs.Kept.{top_in, HasTwo, AreAnswered, AreUnready, ReleasedRight}

-- Refinement: if the state of a node and an act fit the scripts, the state after an act fits the scripts with the act's calls appended. A
-- refused act appends no calls.
abbrev pub ActsFit : Type 0
ActsFit =
    (jobs : Jobs) → AreJobs jobs → (scripts : Scripts) (node : ℕ) (h : NodeState) → Fits jobs scripts node h → FitsHost (scripts host) → (a : Act) → FitsAct jobs scripts a
    → Fits jobs (unless_refused (is_refusal (acts jobs node h a).reply) scripts (says jobs a)) node (acts jobs node h a).left

-- ---- gets

-- each get that waits has no answer yet
abbrev pub HaveNoAnswer : Jobs → ℕ → NodeState → Type 0
HaveNoAnswer jobs node h = (p : Proc) (get : Get) → call_of h p ≡ Some (CallState.parked get) → answer_in jobs node h get modes.Wait ≡ Outcome.parks

-- each act preserves this property
abbrev pub ParkedWait : Type 0
ParkedWait = (jobs : Jobs) (node : ℕ) (h : NodeState) (a : Act) → HaveNoAnswer jobs node h → HaveNoAnswer jobs node (acts jobs node h a).left

-- answers are stable: a get that has an answer keeps having one, for any received frames
abbrev pub AnswersStay : Type 0
AnswersStay =
    (jobs : Jobs) (node : ℕ) (h : NodeState) (a : Act) (get : Get)
    → (answer_in jobs node h get modes.Wait ≡ Outcome.parks → ⊥) → answer_in jobs node (acts jobs node h a).left get modes.Wait ≡ Outcome.parks → ⊥

-- each answered get has an answer, and each act preserves this property; so a get waits exactly if it has no answer
abbrev pub AnsweredHave : Type 0
AnsweredHave = (jobs : Jobs) (node : ℕ) (h : NodeState) (a : Act) → AreAnswered jobs node h → AreAnswered jobs node (acts jobs node h a).left

-- the act delivers the reply to the request of that number, the node takes it, and the reply is about the get's target
abbrev pub BringsReply : Jobs → ℕ → NodeState → Get → ℕ → Act → Type 0
BringsReply jobs node h get number a =
    (r : RefreshReply) × (a ≡ Act.deliver (frames.RefreshReply r)) × (is_taken jobs node h.table (frames.RefreshReply r) ≡ true)
    × (r.request ≡ number) × (r.told.proc ≡ get.target)

-- a get that asks anew waits until this reply comes, or its process ends; no other act ends the wait (PMIx Standard 5.0,
-- PMIX_GET_REFRESH_CACHE)
abbrev pub RefreshingStays : Type 0
RefreshingStays =
    (jobs : Jobs) (node : ℕ) (h : NodeState) (a : Act) (p : Proc) (get : Get) (number : ℕ) → call_of h p ≡ Some (CallState.refreshing get number)
    → (BringsReply jobs node h get number a → ⊥) → (a ≡ Act.request (Request.terminate p) → ⊥)
    → call_of (acts jobs node h a).left p ≡ Some (CallState.refreshing get number)

-- ---- releases

-- each process in a fence is in a fence that is not ready, and each act preserves this property
abbrev pub ReadyFrees : Type 0
ReadyFrees = (jobs : Jobs) (node : ℕ) (h : NodeState) (a : Act) → AreUnready jobs node h → AreUnready jobs node (acts jobs node h a).left

-- a process that is released after an act was released before it, or the fence is ready after it, and the gone participants are those in
-- the headers
abbrev pub FreedByReady : Type 0
FreedByReady =
    (jobs : Jobs) (node : ℕ) (h : NodeState) (a : Act) (p : Proc) (f : FenceName) (gone : List Proc)
    → call_of (acts jobs node h a).left p ≡ Some (CallState.released f gone)
    → (call_of h p ≡ Some (CallState.released f gone)) ⊎ ((is_ready_at jobs node (acts jobs node h a).left f ≡ true) × (gone ≡ gone_by jobs node (acts jobs node h a).left.table f))

-- a released process stays released until it leaves or ends
abbrev pub FreedStays : Type 0
FreedStays =
    (jobs : Jobs) (node : ℕ) (h : NodeState) (a : Act) (p : Proc) (f : FenceName) (gone : List Proc)
    → call_of h p ≡ Some (CallState.released f gone) → (a ≡ Act.request (Request.leave p) → ⊥) → (a ≡ Act.request (Request.terminate p) → ⊥)
    → call_of (acts jobs node h a).left p ≡ Some (CallState.released f gone)

-- after each act a process in a fence that is not old is released exactly if the fence is ready
abbrev pub ReleasedWhereReady : Type 0
ReleasedWhereReady =
    (jobs : Jobs) → AreJobs jobs → (scripts : Scripts) (node : ℕ) (h : NodeState) → Fits jobs scripts node h → FitsHost (scripts host) → (a : Act) → FitsAct jobs scripts a
    → ReleasedRight jobs node h → ReleasedRight jobs node (acts jobs node h a).left

-- ---- fences that are kept

-- the fence that an act names: the next fence of a process that enters, or the fence in a header or in a request for headers
abbrev pub fence_named : Jobs → NodeState → Act → Option FenceName
fence_named jobs h (Act.request (Request.enter p list collect)) = Some (next_name h.table (signature_of jobs p list collect) p)
fence_named jobs h (Act.deliver (frames.Header hd)) = Some hd.name
fence_named jobs h (Act.deliver (frames.FenceAsk a)) = Some a.name
fence_named jobs h _ = None

-- a name in the table after an act was in it before, or the act names it
abbrev pub NamesCome : Type 0
NamesCome =
    (jobs : Jobs) (node : ℕ) (h : NodeState) (a : Act) (f : FenceName) → has_name (acts jobs node h a).left.table f ≡ true → (has_name h.table f ≡ true) ⊎ (fence_named jobs h a ≡ Some f)

-- the greatest instance of a signature is unchanged, or the act names it
abbrev pub TopsCome : Type 0
TopsCome =
    (jobs : Jobs) (node : ℕ) (h : NodeState) (a : Act) (g : Signature)
    → (top_in (acts jobs node h a).left.table g ≡ top_in h.table g) ⊎ (fence_named jobs h a ≡ Some (fence_of g (top_in (acts jobs node h a).left.table g)))

-- after each act the table has at most two instances of each signature
abbrev pub TwoStay : Type 0
TwoStay = (jobs : Jobs) (node : ℕ) (h : NodeState) (a : Act) → HasTwo h.table → HasTwo (acts jobs node h a).left.table

-- a name stays in the table until its fence is old
abbrev pub NamesStay : Type 0
NamesStay =
    (jobs : Jobs) (node : ℕ) (h : NodeState) (a : Act) (f : FenceName) → has_name h.table f ≡ true → is_old (acts jobs node h a).left.table f ≡ false
    → has_name (acts jobs node h a).left.table f ≡ true

-- an old fence stays old, because the greatest instance never falls
abbrev pub TopsRise : Type 0
TopsRise = (jobs : Jobs) (node : ℕ) (h : NodeState) (a : Act) (g : Signature) → top_in h.table g ≤ top_in (acts jobs node h a).left.table g

-- ---- requests that wait

-- each node that waits for a process's next commit is another node of the group, and the process is at home here
abbrev pub HeldAreOwn : Jobs → ℕ → NodeState → Type 0
HeldAreOwn jobs id h = (p : Proc) (node level : ℕ) → held_at h.held p node ≡ Some level → (home_of jobs p ≡ id) × (is_peer jobs id node ≡ true)

-- each act preserves this property
abbrev pub HeldStayOwn : Type 0
HeldStayOwn = (jobs : Jobs) (id : ℕ) (h : NodeState) (a : Act) → HeldAreOwn jobs id h → HeldAreOwn jobs id (acts jobs id h a).left
