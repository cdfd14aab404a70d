use Rattle.std.proofs.Common.{◌≡◌, ◌||◌}
use Rattle.std.specs.BTreeSet.{contains}
use Rattle.std.specs.List.{list_any}
use Rattle.std.specs.Ordering.{eq_by_cmp}
use Rattle.pmg_value.specs.declared.process.Proc.{Proc}
use Rattle.pmg_value.specs.Process.{proc_cmp}
use Rattle.pmg_jobinfo.specs.Expansion.{meant}
use Rattle.pmg_jobinfo.proofs.registry.Registry.meant_by.Given as goal

-- a process that is meant is there already, or is meant by one that is left
abbrev pub invariant-loop-proc : goal.invariant-loop-proc
invariant-loop-proc l = (q : Proc) → (contains proc_cmp l.all q || list_any (λ p. list_any (eq_by_cmp proc_cmp q) (meant l.self p)) l.proc-iterator) ≡ list_any (λ p. list_any (eq_by_cmp proc_cmp q) (meant l.self p)) l.named.keys
