-- The state of a node refines the scripts of all processes.
use Rattle.std.specs.Prelude.{◌≡◌, ℕ, Bool, true, false, List, [], ◌∷◌, ◌++◌, Option, Some, None, if◌then◌else◌}
use Rattle.std.specs.Option.{option_map}
use Rattle.pmg_value.specs.Signatures.{Signature, FenceName}
use Rattle.pmg_value.specs.declared.process.Proc.{Proc}
use Rattle.pmg_scope.specs.Scripts.{Call, Script, has_end, commits}
use Rattle.pmg_scope.specs.declared.scope.Reach.TheVariants as reach
use Rattle.pmg_commit.specs.Data.{Data, level_at}
use Rattle.pmg_commit.specs.Honest.{IsHonest}
use Rattle.pmg_commit.specs.Sealed.{Sealed}
use Rattle.pmg_commit.specs.SealerRules.{FitsBatch, FitsSealer}
use Rattle.pmg_pset.specs.Changes.{Change, script_of}
use Rattle.pmg_frame.specs.declared.frame.Frame.{Frame}
use Rattle.pmg_frame.specs.declared.frame.Frame.TheVariants as frames
use Rattle.pmg_jobinfo.specs.Jobs.{Jobs, home_of}
use Rattle.pmg_fence.specs.Entering.{same_proc, enters, header_of}
use Rattle.pmg_fence.specs.Rules.{FitsTable, Scripts}
use Rattle.pmg_fence.specs.Tables.{fence_of}
use Rattle.pmg_get.specs.Gets.{Outcome}
use Rattle.pmg_store.specs.HonestData.{IsHonestData}
use Rattle.pmg_node_model.specs.Acts.{Act, Reply, Said}
use Rattle.pmg_node_model.specs.Holdings.{CallState, NodeState, sealer_of, call_of}

-- ---- the calls of a process

-- the scripts, with the calls that a process made appended to its own
abbrev pub with_said : Scripts → Option Said → Scripts
with_said scripts None = scripts
with_said scripts (Some said) = λ q. if same_proc q said.proc then scripts q ++ said.calls else scripts q

-- the reply is a refusal
abbrev pub is_refusal : Reply → Bool
is_refusal (Reply.refused e) = true
is_refusal _ = false

-- a refused call leaves the scripts unchanged
abbrev pub unless_refused : Bool → Scripts → Option Said → Scripts
unless_refused refused scripts said = if refused then scripts else with_said scripts said

-- ---- the fence that a process is in

-- the later signature, if there is one, else the earlier
abbrev pub later_signature : Signature → Option Signature → Option Signature
later_signature g None = Some g
later_signature g (Some h) = Some h

-- the signature of the fence that the process entered last
abbrev pub last_signature : Script → Option Signature
last_signature [] = None
last_signature (Call.put scope key value ∷ cs) = last_signature cs
last_signature (Call.commit ∷ cs) = last_signature cs
last_signature (Call.enter g ∷ cs) = later_signature g (last_signature cs)
last_signature (Call.terminate ∷ cs) = None

-- the fence that the process entered last
abbrev pub last_fence : Script → Option FenceName
last_fence s = option_map (λ g. fence_of g (enters s g)) (last_signature s)

-- ---- refinement

-- The state of an own process refines its script. The sealer agrees with the script, and the node knows all its commits, for reads from the
-- process's own node and from other nodes.
pub record FitsOwn (s : Script) (p : Proc) (z : Sealed) (near far : Data) : Type 0 where
  pub sealer : FitsSealer z s
  pub proc : z.proc ≡ p
  pub near_honest : IsHonestData s reach.Near p near
  pub near_level : level_at near p ≡ commits s
  pub far_level : level_at far p ≡ commits s

-- an outcome that is an answer
abbrev pub IsAnswerOutcome : Outcome → Type 0
IsAnswerOutcome (Outcome.found value) = Unit {0}
IsAnswerOutcome Outcome.absent = Unit {0}
IsAnswerOutcome Outcome.outside = Unit {0}
IsAnswerOutcome Outcome.parks = ⊥

-- the fence is the last one that the process entered, and the process has not ended
abbrev pub IsIn : Script → FenceName → Type 0
IsIn s f = (last_fence s ≡ Some f) × (has_end s ≡ false)

-- the call of an own process fits its script
abbrev pub FitsCall : Script → Option CallState → Type 0
FitsCall s None = Unit {0}
FitsCall s (Some (CallState.in_fence f)) = IsIn s f
FitsCall s (Some (CallState.released f gone)) = IsIn s f
FitsCall s (Some (CallState.parked get)) = Unit {0}
FitsCall s (Some (CallState.answered get outcome)) = IsAnswerOutcome outcome
FitsCall s (Some (CallState.refreshing get number)) = Unit {0}
FitsCall s (Some (CallState.refreshed get outcome)) = IsAnswerOutcome outcome

-- The state of a node refines the scripts. Each process at home there fits its script, with its sealed state and its call. The table of
-- fences fits the scripts, and all knowledge of any process is contributions of its script.
pub record Fits (jobs : Jobs) (scripts : Scripts) (node : ℕ) (h : NodeState) : Type 0 where
  pub own : (p : Proc) → home_of jobs p ≡ node → FitsOwn (scripts p) p (sealer_of h p) h.near h.far
  pub calls : (p : Proc) → home_of jobs p ≡ node → FitsCall (scripts p) (call_of h p)
  pub table : FitsTable jobs node scripts h.table
  pub far : (q : Proc) → IsHonestData (scripts q) reach.Far q h.far

-- the content of a frame agrees with the scripts
abbrev pub HonestFrame : Jobs → Scripts → Frame → Type 0
HonestFrame jobs scripts (frames.Piece c) = IsHonest (scripts c.proc) reach.Far c
HonestFrame jobs scripts (frames.Header hd) = header_of jobs scripts hd.name hd.node ≡ Some hd.locals
HonestFrame jobs scripts (frames.FenceAsk a) = Unit {0}
HonestFrame jobs scripts (frames.RangeAsk a) = Unit {0}
HonestFrame jobs scripts (frames.DirectAsk a) = Unit {0}
HonestFrame jobs scripts (frames.RefreshAsk a) = Unit {0}
HonestFrame jobs scripts (frames.RefreshReply r) = IsHonest (scripts r.told.proc) reach.Far r.told

-- the script of the process that represents the group's host has only changes of the sets
abbrev pub FitsHost : Script → Type 0
FitsHost s = (cs : List Change) × (s ≡ script_of cs)

-- the assumption about an act: a commit has the unsealed puts of the script, and a frame is honest
abbrev pub FitsAct : Jobs → Scripts → Act → Type 0
FitsAct jobs scripts (Act.request r) = Unit {0}
FitsAct jobs scripts (Act.commit p b) = has_end (scripts p) ≡ false → FitsBatch b (scripts p)
FitsAct jobs scripts (Act.deliver frame) = HonestFrame jobs scripts frame
