-- The invariant of a node's state.
use Rattle.std.specs.Prelude.{◌≡◌, ℕ, ◌≤◌, Bool, true, false, List, Some, if◌then◌else◌}
use Rattle.std.specs.FinMap as finite
use Rattle.std.specs.FinSet as set
use Rattle.std.specs.Ordering.{eq_by_cmp}
use Rattle.pmg_value.specs.Signatures.{Signature, FenceName}
use Rattle.pmg_value.specs.declared.process.Proc.{Proc}
use Rattle.pmg_commit.specs.Data.{known}
use Rattle.pmg_frame.specs.FenceOrder.{name_cmp}
use Rattle.pmg_jobinfo.specs.Jobs.{Jobs, is_member, home_of}
use Rattle.pmg_fence.specs.Entering.{same_proc}
use Rattle.pmg_fence.specs.Tables.{Fences, series_at, has_name, is_old, fence_at, count_of, told_of, gone_by}
use Rattle.pmg_dmodex.specs.Levels.{node_level as held_at}
use Rattle.pmg_get.specs.Gets.{Outcome}
use Rattle.pmg_get.specs.declared.view.Mode.TheVariants as modes
use Rattle.pmg_node_model.specs.Acts.{Act, is_peer, is_concerned, acts}
use Rattle.pmg_node_model.specs.Holdings.{Get, CallState, NodeState, new_holding, sealer_of, call_of, is_ready_at, answer_in, mapped, settle, settled, with_calls}

-- A process in a fence is in a fence that is not ready, and a get waits only while it has no answer.
pub record IsSettled (jobs : Jobs) (id : ℕ) (h : NodeState) : Type 0 where
  pub fences : (p : Proc) (f : FenceName) → call_of h p ≡ Some (CallState.in_fence f) → is_ready_at jobs id h f ≡ false
  pub gets : (p : Proc) (get : Get) → call_of h p ≡ Some (CallState.parked get) → answer_in jobs id h get modes.Wait ≡ Outcome.parks

-- a process of the group, at home at the node
abbrev pub IsOwn : Jobs → ℕ → Proc → Type 0
IsOwn jobs id p = (is_member jobs p ≡ true) × (home_of jobs p ≡ id)

-- the greatest instance of the signature that the node learned or entered, 0 without one
abbrev pub top_in : Fences → Signature → ℕ
top_in t g = (series_at t g).top

-- of each signature the table has at most two names: the greatest instance, and the one before it
abbrev pub HasTwo : Fences → Type 0
HasTwo t = (f : FenceName) → has_name t f ≡ true → (is_old t f ≡ false) × (f.instance ≤ top_in t f.signature)

-- The invariant of a node's state that needs no script. Each sealer is of its own process. Each caller is a process of the group, at home
-- at the node. A get waits for a key of a process of the group, and a get that asks anew has a number that was given. A node that waits for
-- a process's next commit is another node, and the process is at home at this one. The waiting node's level covers all existing commits.
-- Each fence in the table has only participants of the group, some at home at the node. Each signature has at most two names. A process in
-- a fence takes part in it, and the fence's name is in the table unless it is old.
pub record Holds (jobs : Jobs) (id : ℕ) (h : NodeState) : Type 0 where
  pub sealers : (p : Proc) → (sealer_of h p).proc ≡ p
  pub callers : (p : Proc) (standing : CallState) → call_of h p ≡ Some standing → IsOwn jobs id p
  pub targets : (p : Proc) (get : Get) → call_of h p ≡ Some (CallState.parked get) → is_member jobs get.target ≡ true
  pub anew : (p : Proc) (get : Get) (number : ℕ) → call_of h p ≡ Some (CallState.refreshing get number)
      → (is_member jobs get.target ≡ true) × (number ≤ h.requests)
  pub homes : (p : Proc) (node level : ℕ) → held_at h.held p node ≡ Some level → home_of jobs p ≡ id
  pub askers : (p : Proc) (node level : ℕ) → held_at h.held p node ≡ Some level → is_peer jobs id node ≡ true
  pub levels : (p : Proc) (node level : ℕ) → held_at h.held p node ≡ Some level → (sealer_of h p).level ≤ level
  pub names : (f : FenceName) → has_name h.table f ≡ true → is_concerned jobs id f ≡ true
  pub two : HasTwo h.table
  pub there : (p : Proc) (f : FenceName) → call_of h p ≡ Some (CallState.in_fence f) → is_old h.table f ≡ false → has_name h.table f ≡ true
  pub parts : (p : Proc) (f : FenceName) → call_of h p ≡ Some (CallState.in_fence f) → set.contains f.signature.participants p ≡ true

-- The table counts own processes correctly. A process with an entry in the k-th fence of a signature entered at least k of them. A process
-- with a recorded end has ended.
pub record IsCounted (h : NodeState) : Type 0 where
  pub entered : (f : FenceName) (p : Proc) (level : ℕ) → finite.get (fence_at h.table f).levels p ≡ Some level → f.instance ≤ count_of h.table f.signature p
  pub ended : (p : Proc) (level : ℕ) → finite.get h.table.ends p ≡ Some level → (sealer_of h p).ended ≡ true

-- each answered get has an answer
abbrev pub AreAnswered : Jobs → ℕ → NodeState → Type 0
AreAnswered jobs node h =
    (p : Proc) (get : Get) (outcome : Outcome) → call_of h p ≡ Some (CallState.answered get outcome) → answer_in jobs node h get modes.Wait ≡ Outcome.parks → ⊥

-- each process in a fence is in a fence that is not ready
abbrev pub AreUnready : Jobs → ℕ → NodeState → Type 0
AreUnready jobs node h = (p : Proc) (f : FenceName) → call_of h p ≡ Some (CallState.in_fence f) → is_ready_at jobs node h f ≡ false

-- A process that is released from a fence that is not old is released from a ready fence, with the gone participants of its headers. A
-- process waits only in a fence that is not ready.
pub record ReleasedRight (jobs : Jobs) (node : ℕ) (h : NodeState) : Type 0 where
  pub released : (p : Proc) (f : FenceName) (gone : List Proc) → call_of h p ≡ Some (CallState.released f gone) → is_old h.table f ≡ false
      → (is_ready_at jobs node h f ≡ true) × (gone ≡ gone_by jobs node h.table f)
  pub waits : AreUnready jobs node h

-- The invariant of a node's state, for any received frames. A process in a fence that is not old is released exactly if the fence is ready.
-- A get waits exactly if it has no answer.
pub record IsServer (jobs : Jobs) (id : ℕ) (h : NodeState) : Type 0 where
  pub settled : IsSettled jobs id h
  pub holds : Holds jobs id h
  pub counted : IsCounted h
  pub released : ReleasedRight jobs id h
  pub answered : AreAnswered jobs id h

-- a new node satisfies the invariant
abbrev pub NewIsServer : Type 0
NewIsServer = (jobs : Jobs) (id : ℕ) → IsServer jobs id (new_holding jobs id)

-- each act preserves the invariant
abbrev pub ServerStays : Type 0
ServerStays = (jobs : Jobs) (id : ℕ) (h : NodeState) (a : Act) → IsServer jobs id h → IsServer jobs id (acts jobs id h a).left

-- settling is the identity on a settled state
abbrev pub SettledSame : Type 0
SettledSame = (jobs : Jobs) (id : ℕ) (h : NodeState) → IsSettled jobs id h → settled jobs id h ≡ h

-- ---- the calls that a change can settle

-- a get of a key of the process, or a fence in which the process takes part
abbrev pub is_about : Proc → CallState → Bool
is_about q (CallState.in_fence f) = set.contains f.signature.participants q
is_about q (CallState.released f gone) = false
is_about q (CallState.parked get) = same_proc get.target q
is_about q (CallState.answered get outcome) = false
is_about q (CallState.refreshing get number) = false
is_about q (CallState.refreshed get outcome) = false

-- the call waits in the fence
abbrev pub is_in : FenceName → CallState → Bool
is_in f (CallState.in_fence g) = eq_by_cmp name_cmp g f
is_in f (CallState.released g gone) = false
is_in f (CallState.parked get) = false
is_in f (CallState.answered get outcome) = false
is_in f (CallState.refreshing get number) = false
is_in f (CallState.refreshed get outcome) = false

-- settles the call again if the test selects it
abbrev pub settle_where : Jobs → ℕ → NodeState → (CallState → Bool) → CallState → CallState
settle_where jobs id h looks standing = if looks standing then settle jobs id h standing else standing

-- Two states that differ only in one process q. Their knowledge of all other processes is equal. The entries of fences without q that are
-- not old in the second state are equal too. A fence that is old in the first state is old in the second. Each call of the second state
-- that is not about q is a call of the first.
pub record DiffersAt (jobs : Jobs) (id : ℕ) (q : Proc) (h g : NodeState) : Type 0 where
  pub calls : (p : Proc) (standing : CallState) → call_of g p ≡ Some standing → is_about q standing ≡ false → call_of h p ≡ Some standing
  pub near : (p : Proc) → same_proc p q ≡ false → known g.near p ≡ known h.near p
  pub far : (p : Proc) → same_proc p q ≡ false → known g.far p ≡ known h.far p
  pub old : (f : FenceName) → is_old g.table f ≡ false → is_old h.table f ≡ false
  pub told : (f : FenceName) (p : Proc) → is_old g.table f ≡ false → set.contains f.signature.participants q ≡ false → told_of jobs id g.table f p ≡ told_of jobs id h.table f p

-- Two states that differ only in one fence. Their knowledge of all processes is equal. The entries of all other fences that are not old in
-- the second state are equal too. A fence that is old in the first state is old in the second. Each call of the second state that is not in
-- the fence is a call of the first.
pub record DiffersIn (jobs : Jobs) (id : ℕ) (f : FenceName) (h g : NodeState) : Type 0 where
  pub calls : (p : Proc) (standing : CallState) → call_of g p ≡ Some standing → is_in f standing ≡ false → call_of h p ≡ Some standing
  pub near : g.near ≡ h.near
  pub far : g.far ≡ h.far
  pub old : (x : FenceName) → is_old g.table x ≡ false → is_old h.table x ≡ false
  pub told : (x : FenceName) (p : Proc) → is_old g.table x ≡ false → eq_by_cmp name_cmp x f ≡ false → told_of jobs id g.table x p ≡ told_of jobs id h.table x p

-- if the node learns more of one process, only gets of its keys and fences in which it takes part need a second look
abbrev pub SettledOn : Type 0
SettledOn =
    (jobs : Jobs) (id : ℕ) (q : Proc) (h g : NodeState) → IsSettled jobs id h → DiffersAt jobs id q h g
    → settled jobs id g ≡ with_calls g (mapped (settle_where jobs id g (is_about q)) g.calls)

-- if one fence changes, only the processes in it need a second look
abbrev pub SettledNames : Type 0
SettledNames =
    (jobs : Jobs) (id : ℕ) (f : FenceName) (h g : NodeState) → IsSettled jobs id h → DiffersIn jobs id f h g
    → settled jobs id g ≡ with_calls g (mapped (settle_where jobs id g (is_in f)) g.calls)
