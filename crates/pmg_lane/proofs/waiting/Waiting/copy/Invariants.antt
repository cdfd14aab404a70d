use Rattle.std.proofs.Common.{ℕ, ◌≡◌, ◌⊎◌}
use Rattle.std.specs.Prelude.{Some}
use Rattle.std.specs.List.{AllByRecursion}
use Rattle.std.specs.Ordering.{nat_cmp}
use Rattle.std.specs.BTreeMap.{get}
use Rattle.std.specs.Map.{keys_of}
use Rattle.pmg_value.specs.Lists.{In}
use Rattle.pmg_lane.specs.Waiting.{waiting_at}
use Rattle.pmg_lane.proofs.waiting.Waiting.copy.Given as goal

-- the lists that were seen are copied
abbrev pub invariant-loop-number : goal.invariant-loop-number
invariant-loop-number l = record {
  copied : (n : ℕ) → In n (keys_of l.number-iterator) ⊎ (waiting_at l.copy.lists n ≡ waiting_at l.self.lists n);
  found : AllByRecursion (λ e. get nat_cmp l.self.lists e.0 ≡ Some e.1) l.number-iterator;
}
