-- The waiting processes, by fence.
use Rattle.std.specs.Prelude.{◌==◌, if◌then◌else◌}
use Rattle.std.specs.Coded.{Coded}
use Rattle.std.specs.FinMap as finite
use Rattle.std.specs.FinSet as set
use Rattle.std.specs.Option.{unwrap_or}
use Rattle.pmg_value.specs.Process.{proc_cmp, coded_proc}
use Rattle.pmg_value.specs.Signatures.{FenceName}
use Rattle.pmg_value.specs.declared.process.Proc.{Proc}
use Rattle.pmg_frame.specs.FenceOrder.{name_cmp}
use Rattle.pmg_frame.specs.Fences.{coded_name}

-- a set of processes
abbrev pub Procs : Type 0
Procs = set.FinSet proc_cmp

-- the code of a set of processes
abbrev pub coded_procs : Coded Procs
coded_procs = set.code coded_proc

-- the processes that wait in each of some fences
abbrev pub Waiters : Type 0
Waiters = finite.FinMap name_cmp Procs

-- the code of waiting processes by fence
abbrev pub coded_waiters : Coded Waiters
coded_waiters = finite.code coded_name coded_procs

-- the processes that wait in the fence
abbrev pub waiters_in : Waiters → FenceName → Procs
waiters_in all f = unwrap_or (finite.get all f) set.empty

-- the map with the process as a waiter in the fence
abbrev pub waiting_too : Waiters → FenceName → Proc → Waiters
waiting_too all f p = finite.insert all f (set.insert (waiters_in all f) p)

-- the map with these waiters in the fence; a fence without waiters is not listed
abbrev pub left_in : Waiters → FenceName → Procs → Waiters
left_in all f procs = if set.len procs == 0 then finite.remove all f else finite.insert all f procs

-- the map without the process as a waiter in the fence
abbrev pub waiting_less : Waiters → FenceName → Proc → Waiters
waiting_less all f p = left_in all f (set.remove (waiters_in all f) p)
