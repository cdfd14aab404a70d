use Rattle.std.proofs.Common.{ℕ, ◌≡◌, ◌⊎◌}
use Rattle.std.specs.Prelude.{Some, IsSome}
use Rattle.std.specs.List.{AllByRecursion}
use Rattle.std.specs.Ordering.{nat_cmp}
use Rattle.std.specs.BTreeMap.{get}
use Rattle.std.specs.Map.{keys_of}
use Rattle.pmg_value.specs.Lists.{In}
use Rattle.pmg_lane.specs.Entries.{HoldAlike, PlacesStay}
use Rattle.pmg_lane.specs.Waiting.{waiting_at, HasRoomUnder}
use Rattle.pmg_lane.proofs.waiting.Waiting.make_rooms.Given as goal

-- nothing changes but room, and there is room for the lists that were seen
abbrev pub invariant-loop-number : goal.invariant-loop-number
invariant-loop-number l = record {
  alike : HoldAlike l.fn.entries l.entries;
  same : (n : ℕ) → waiting_at l.self.lists n ≡ waiting_at l.fn.self.lists n;
  places : PlacesStay l.fn.entries l.entries;
  stay : (n : ℕ) → IsSome (get nat_cmp l.fn.self.lists n) → IsSome (get nat_cmp l.self.lists n);
  room : (n : ℕ) → In n (keys_of l.number-iterator) ⊎ HasRoomUnder l.entries l.self.lists l.level n (waiting_at l.other.lists n);
  found : AllByRecursion (λ e. get nat_cmp l.other.lists e.0 ≡ Some e.1) l.number-iterator;
}
