-- The fences that the nodes of a world in code keep.
use Rattle.std.specs.Prelude.{◌≡◌, ◌⊎◌, ℕ, suc, ◌<◌, true, length, slice_index_or}
use Rattle.pmg_value.specs.Signatures.{FenceName}
use Rattle.pmg_value.specs.declared.process.Proc.{Proc}
use Rattle.pmg_jobinfo.specs.Jobs.{Jobs}
use Rattle.pmg_fence.specs.Tables.{has_name}
use Rattle.pmg_node.specs.Servers.{Server}
use Rattle.pmg_node_model.specs.Kept.{top_in}
use Rattle.pmg_node_model.specs.Sending.{WaitsIn}
use Rattle.pmg_world.specs.Accounts.{Account}

-- The node keeps at most two instances of one signature, the greatest that it learned or entered and the one before. It keeps each fence
-- in which a process of its own waits.
pub record KeepsFences (jobs : Jobs) (node : ℕ) (s : Server) : Type 0 where
  pub two : (f : FenceName) → has_name s.holding.table f ≡ true
      → (f.instance ≡ top_in s.holding.table f.signature) ⊎ (suc f.instance ≡ top_in s.holding.table f.signature)
  pub waiting : (f : FenceName) (p : Proc) → WaitsIn jobs node s.holding f p → has_name s.holding.table f ≡ true

-- each node of the world keeps its fences this way
unfoldable pub KeepFences : Account → Type 0
KeepFences a = (node : ℕ) (d : Server) → node < length a.nodes → KeepsFences a.jobs node (slice_index_or a.nodes node d)
