-- The index of waiting processes.
use Rattle.std.specs.Prelude.{◌≡◌, ℕ, Bool, false, List, Option, Some, None, ◌==◌}
use Rattle.std.specs.FinMap as finite
use Rattle.std.specs.FinSet as set
use Rattle.pmg_value.specs.Signatures.{FenceName}
use Rattle.pmg_value.specs.declared.process.Proc.{Proc}
use Rattle.pmg_dmodex.specs.Parked.{awaited, parking, unparked}
use Rattle.pmg_node_parts.specs.Calls.{key_on, is_waiting_in}
use Rattle.pmg_node_parts.specs.Codes.{Calls}
use Rattle.pmg_node_parts.specs.Waiters.{Procs, waiters_in, waiting_too, waiting_less}
use Rattle.pmg_node_model.specs.Holdings.{CallState}
use Rattle.pmg_node_parts.specs.declared.waiting.Waiting.{Waiting}

-- the index with the process, in this call
abbrev pub with_waiter : Waiting → Proc → CallState → Waiting
with_waiter w p (CallState.in_fence f) = record w { fences = waiting_too w.fences f p }
with_waiter w p (CallState.released f gone) = w
with_waiter w p (CallState.parked get) = record w { gets = parking w.gets get.target p get.key }
with_waiter w p (CallState.answered get outcome) = w
with_waiter w p (CallState.refreshing get number) = w
with_waiter w p (CallState.refreshed get outcome) = w

-- the index without the process, in this call
abbrev pub without_call : Waiting → Proc → CallState → Waiting
without_call w p (CallState.in_fence f) = record w { fences = waiting_less w.fences f p }
without_call w p (CallState.released f gone) = w
without_call w p (CallState.parked get) = record w { gets = unparked w.gets get.target p }
without_call w p (CallState.answered get outcome) = w
without_call w p (CallState.refreshing get number) = w
without_call w p (CallState.refreshed get outcome) = w

-- the key of the process that a call waits for, if there is a call
abbrev pub awaits : Proc → Option CallState → Option (List ℕ)
awaits q None = None
awaits q (Some s) = key_on q s

-- there is a call, and it waits in the fence
abbrev pub waits_for : FenceName → Option CallState → Bool
waits_for f None = false
waits_for f (Some s) = is_waiting_in f s

-- The invariant of the index: it has exactly the waiting processes, by the process or the fence that they wait for, and no fence without
-- waiters.
pub record IsWaitingIndex (all : Calls) (w : Waiting) : Type 0 where
  pub gets : (q p : Proc) → awaited w.gets q p ≡ awaits q (finite.get all p)
  pub fences : (f : FenceName) (p : Proc) → set.contains (waiters_in w.fences f) p ≡ waits_for f (finite.get all p)
  pub filled : (f : FenceName) (procs : Procs) → finite.get w.fences f ≡ Some procs → (set.len procs == 0) ≡ false
