use Rattle.std.proofs.Common.{ℕ, List, ◌≡◌, ◌⊎◌}
use Rattle.std.specs.Map.{keys_of}
use Rattle.std.specs.List.Sorted.{IsStrictlySortedBy}
use Rattle.std.specs.Ordering.{nat_cmp}
use Rattle.std.specs.Cmp.Lexicographic.{slice_cmp}
use Rattle.pmg_value.specs.Lists.{In}
use Rattle.pmg_join.specs.Places.{there_at, HasPlace}
use Rattle.pmg_lane.specs.Entries.{late_cmp}
use Rattle.pmg_lane.proofs.entries.make_reached_places.Given as goal

-- what is read is the same, and there are places for the late places that were seen; those that are left are in order
abbrev pub invariant-loop-place : goal.invariant-loop-place
invariant-loop-place l = record {
  same : (q : List ℕ) → there_at (slice_cmp nat_cmp) l.reads q ≡ there_at (slice_cmp nat_cmp) l.fn.reads q;
  stay : (q : List ℕ) → HasPlace (slice_cmp nat_cmp) l.fn.reads q → HasPlace (slice_cmp nat_cmp) l.reads q;
  places : (q : ℕ × List ℕ) → HasPlace late_cmp l.late q → In q (keys_of l.place-iterator) ⊎ HasPlace (slice_cmp nat_cmp) l.reads q.1;
  ordered : IsStrictlySortedBy late_cmp (keys_of l.place-iterator);
}
