-- Names of fences.
use Rattle.std.specs.Prelude.{ℕ, Bool}
use Rattle.std.specs.FinSet as set
use Rattle.pmg_value.specs.Process.{proc_cmp}

-- The processes that meet in a fence, and whether it collects data (PMIx Standard 5.0, PMIx_Fence, PMIX_COLLECT_DATA).
pub record Signature : Type 0 where
  pub participants : set.FinSet proc_cmp
  pub collect : Bool

-- One fence among those of its signature: each participant's k-th entry meets the others' k-th.
pub record FenceName : Type 0 where
  pub signature : Signature
  pub instance : ℕ
