-- Fences in turn: each fence in use was entered, and no process runs past an open fence.
use Rattle.std.specs.Prelude.{◌≡◌, ◌⊎◌, ℕ, ◌<◌, ◌≤◌, true, false, List, Some}
use Rattle.pmg_value.specs.Lists.{In, Each}
use Rattle.pmg_value.specs.Signatures.{Signature, FenceName}
use Rattle.pmg_value.specs.declared.process.Proc.{Proc}
use Rattle.pmg_scope.specs.Scripts.{has_end}
use Rattle.pmg_frame.specs.Fences.{participants_of}
use Rattle.pmg_frame.specs.declared.frame.Frame.{Frame}
use Rattle.pmg_frame.specs.declared.frame.Frame.TheVariants as frames
use Rattle.pmg_jobinfo.specs.Jobs.{Jobs, AreJobs, home_of}
use Rattle.pmg_fence.specs.Entering.{enters, level_before, entry}
use Rattle.pmg_fence.specs.Rules.{Scripts}
use Rattle.pmg_fence.specs.Tables.{Fences, is_old, has_name, fence_of}
use Rattle.pmg_fence.specs.declared.entry.Entry.{Entry}
use Rattle.pmg_node_model.specs.Holdings.{CallState, NodeState, call_of}
use Rattle.pmg_node_model.specs.Kept.{top_in}
use Rattle.pmg_group_model.specs.Worlds.{World, Happened, Run, start}

-- some process entered the fence
abbrev pub WasEntered : Scripts → FenceName → Type 0
WasEntered scripts f = (q : Proc) × (level : ℕ) × (level_before (scripts q) f.signature f.instance ≡ Some level)

-- each participant has entered the fence or is gone
abbrev pub IsOver : Scripts → FenceName → Type 0
IsOver scripts f = (q : Proc) → In q (participants_of f) → (e : Entry) × (entry (scripts q) f ≡ Some e)

-- a frame names only fences that some process entered
abbrev pub NamesEntered : Scripts → Frame → Type 0
NamesEntered scripts (frames.Piece c) = Unit {0}
NamesEntered scripts (frames.Header hd) = WasEntered scripts hd.name
NamesEntered scripts (frames.FenceAsk a) = WasEntered scripts a.name
NamesEntered scripts (frames.RangeAsk a) = Unit {0}
NamesEntered scripts (frames.DirectAsk a) = Unit {0}
NamesEntered scripts (frames.RefreshAsk a) = Unit {0}
NamesEntered scripts (frames.RefreshReply r) = Unit {0}

-- a process waits in the fence: the node has the fence's name unless it is old, the process takes part, and some process entered the fence
pub record Waits (scripts : Scripts) (t : Fences) (p : Proc) (f : FenceName) : Type 0 where
  pub named : is_old t f ≡ false → has_name t f ≡ true
  pub part : In p (participants_of f)
  pub entered : WasEntered scripts f

-- some process entered each fence in the node's table, the greatest instance of each signature, and each fence that a process waits in
pub record AreNamed (scripts : Scripts) (h : NodeState) : Type 0 where
  pub names : (f : FenceName) → has_name h.table f ≡ true → WasEntered scripts f
  pub tops : (g : Signature) → 0 < top_in h.table g → WasEntered scripts (fence_of g (top_in h.table g))
  pub calls : (p : Proc) (f : FenceName) → call_of h p ≡ Some (CallState.in_fence f) → Waits scripts h.table p f

-- each fence of a signature that a process entered is over, or the process waits in it, or the process has ended
abbrev pub ArePast : Scripts → NodeState → Proc → Type 0
ArePast scripts h p =
    (g : Signature) (k : ℕ) → 0 < k → k ≤ enters (scripts p) g
    → IsOver scripts (fence_of g k) ⊎ ((call_of h p ≡ Some (CallState.in_fence (fence_of g k))) ⊎ (has_end (scripts p) ≡ true))

-- each fence of a signature that a process entered, except the last, is over
abbrev pub IsInTurn : Scripts → Proc → Type 0
IsInTurn scripts p = (g : Signature) (k : ℕ) → 0 < k → k < enters (scripts p) g → IsOver scripts (fence_of g k)

-- The invariant of every step. Nodes and frames name only fences that some process entered. Each fence of a signature that a process
-- entered is over, except possibly the last one. The last one may be open while the process waits in it, or after the process has ended.
pub record Turned (jobs : Jobs) (w : World) : Type 0 where
  pub named : (node : ℕ) → AreNamed w.scripts (w.nodes node)
  pub past : (p : Proc) → ArePast w.scripts (w.nodes (home_of jobs p)) p
  pub turn : (p : Proc) → IsInTurn w.scripts p
  pub frames : Each (λ s. NamesEntered w.scripts s.frame) w.sent

-- Each fence in a node's table was entered by some process.
abbrev pub NamesWereEntered : Type 0
NamesWereEntered =
    (jobs : Jobs) → AreJobs jobs → (xs : List Happened) (w : World) → Run jobs (start jobs) xs w
    → (node : ℕ) (f : FenceName) → has_name (w.nodes node).table f ≡ true → WasEntered w.scripts f

-- No process runs past an open fence: before a process enters the next fence of a signature, the fence before is over.
abbrev pub AlwaysInTurn : Type 0
AlwaysInTurn = (jobs : Jobs) → AreJobs jobs → (xs : List Happened) (w : World) → Run jobs (start jobs) xs w → (p : Proc) → IsInTurn w.scripts p
