use Rattle.std.proofs.Common.{ℕ, ◌≡◌, ◌⊎◌}
use Rattle.std.specs.Prelude.{Some}
use Rattle.std.specs.List.{AllByRecursion}
use Rattle.std.specs.Ordering.{nat_cmp}
use Rattle.std.specs.BTreeMap.{get}
use Rattle.std.specs.Map.{keys_of}
use Rattle.std.specs.List.Sorted.{IsStrictlySortedBy}
use Rattle.pmg_value.specs.Lists.{In}
use Rattle.pmg_commit.specs.declared.piece.PieceEntry.{PieceEntry}
use Rattle.pmg_lane.specs.Entries.{HoldAlike, HasPlaces, PlacesStay}
use Rattle.pmg_lane.specs.Waiting.{waiting_at}
use Rattle.pmg_lane.proofs.waiting.Waiting.make_listed_places.Given as goal

-- the entries are the same, and there are places for those in the lists that were seen
abbrev pub invariant-loop-number : goal.invariant-loop-number
invariant-loop-number l = record {
  alike : HoldAlike l.fn.entries l.entries;
  stay : PlacesStay l.fn.entries l.entries;
  places : (n : ℕ) (e : PieceEntry) → In e (waiting_at l.self.lists n) → In n (keys_of l.number-iterator) ⊎ HasPlaces l.entries l.level e.number e.key;
  found : AllByRecursion (λ e. get nat_cmp l.self.lists e.0 ≡ Some e.1) l.number-iterator;
  ordered : IsStrictlySortedBy nat_cmp (keys_of l.number-iterator);
}
