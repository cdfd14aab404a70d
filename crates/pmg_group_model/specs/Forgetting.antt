-- The fences of a signature that a node keeps.
use Rattle.std.specs.Prelude.{◌≡◌, ◌⊎◌, ℕ, suc, true, List}
use Rattle.pmg_value.specs.Signatures.{FenceName}
use Rattle.pmg_value.specs.declared.process.Proc.{Proc}
use Rattle.pmg_jobinfo.specs.Jobs.{Jobs, AreJobs}
use Rattle.pmg_fence.specs.Tables.{has_name}
use Rattle.pmg_node_model.specs.Kept.{top_in}
use Rattle.pmg_node_model.specs.Sending.{WaitsIn}
use Rattle.pmg_group_model.specs.Worlds.{World, Happened, Run, start}

-- After each step a node keeps at most two instances of each signature: the greatest that it learned or entered, and the one before.
abbrev pub KeepsTwo : Type 0
KeepsTwo =
    (jobs : Jobs) → AreJobs jobs → (xs : List Happened) (w : World) → Run jobs (start jobs) xs w
    → (node : ℕ) (f : FenceName) → has_name (w.nodes node).table f ≡ true
    → (f.instance ≡ top_in (w.nodes node).table f.signature) ⊎ (suc f.instance ≡ top_in (w.nodes node).table f.signature)

-- A node keeps each fence in which one of its own processes waits.
abbrev pub KeepsWaiting : Type 0
KeepsWaiting =
    (jobs : Jobs) → AreJobs jobs → (xs : List Happened) (w : World) → Run jobs (start jobs) xs w
    → (node : ℕ) (f : FenceName) (p : Proc) → WaitsIn jobs node (w.nodes node) f p → has_name (w.nodes node).table f ≡ true
