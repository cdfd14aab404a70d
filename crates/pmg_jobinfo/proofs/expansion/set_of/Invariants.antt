use Rattle.std.proofs.Common.{◌≡◌, ◌||◌, drop}
use Rattle.std.specs.BTreeSet.{contains}
use Rattle.std.specs.List.{list_any}
use Rattle.std.specs.Ordering.{eq_by_cmp}
use Rattle.pmg_value.specs.declared.process.Proc.{Proc}
use Rattle.pmg_value.specs.Process.{proc_cmp}
use Rattle.pmg_jobinfo.proofs.expansion.set_of.Given as goal

-- a process of the list is there already, or is among those that are left
abbrev pub invariant-loop-proc : goal.invariant-loop-proc
invariant-loop-proc l = (q : Proc) → (contains proc_cmp l.named q || list_any (eq_by_cmp proc_cmp q) (drop l.proc-index l.list)) ≡ list_any (eq_by_cmp proc_cmp q) l.list
