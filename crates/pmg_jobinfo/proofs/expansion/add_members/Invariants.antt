use Rattle.std.proofs.Common.{◌≡◌, ◌||◌}
use Rattle.std.specs.BTreeSet.{contains}
use Rattle.std.specs.List.{list_any}
use Rattle.std.specs.Ordering.{eq_by_cmp}
use Rattle.pmg_value.specs.declared.process.Proc.{Proc}
use Rattle.pmg_value.specs.Process.{proc_cmp}
use Rattle.pmg_jobinfo.specs.Expansion.{members}
use Rattle.pmg_jobinfo.proofs.expansion.add_members.Given as goal

-- the processes below the rank were added
abbrev pub invariant-loop-rank : goal.invariant-loop-rank
invariant-loop-rank l = (q : Proc) → contains proc_cmp l.all q ≡ (list_any (eq_by_cmp proc_cmp q) (members l.nspace l.rank) || contains proc_cmp l.fn.all q)
