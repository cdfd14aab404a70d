use Rattle.std.proofs.Common.{◌⊎◌}
use Rattle.pmg_value.specs.Lists.{In}
use Rattle.pmg_commit.specs.Entries.{Entry}
use Rattle.pmg_lane.specs.Entries.{late_entry, IsLateIn, HoldAlike, PlacesStay, HasPlaces}
use Rattle.pmg_lane.proofs.Listing.{made_of}
use Rattle.pmg_lane.proofs.entries.Entries.make_late_places.Given as goal

-- the entries are the same, and there are places for the late ones that were seen
abbrev pub invariant-loop-place : goal.invariant-loop-place
invariant-loop-place l = record {
  same : HoldAlike l.fn.self l.self;
  stay : PlacesStay l.fn.self l.self;
  places : (e : Entry) → IsLateIn l.late e → In e (made_of late_entry l.place-iterator) ⊎ HasPlaces l.self l.level e.number e.key;
}
