use Rattle.std.proofs.Common.{◌⊎◌}
use Rattle.pmg_value.specs.Lists.{In}
use Rattle.pmg_commit.specs.Entries.{Entry}
use Rattle.pmg_lane.specs.Entries.{entry_under, IsReadIn, HoldAlike, PlacesStay, HasPlaces}
use Rattle.pmg_lane.proofs.Listing.{made_of}
use Rattle.pmg_lane.proofs.entries.Entries.make_read_places.Given as goal

-- the entries are the same, and there are places for those that were seen
abbrev pub invariant-loop-key : goal.invariant-loop-key
invariant-loop-key l = record {
  same : HoldAlike l.fn.self l.self;
  stay : PlacesStay l.fn.self l.self;
  places : (e : Entry) → IsReadIn l.reads e → In e (made_of entry_under l.key-iterator) ⊎ HasPlaces l.self l.level e.number e.key;
}
