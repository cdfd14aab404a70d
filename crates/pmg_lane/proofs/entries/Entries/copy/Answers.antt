use Rattle.std.proofs.Common.{ap}
use Rattle.pmg_join.specs.Places.{placed}
use Rattle.std.specs.Option.{option_map}
use Rattle.pmg_lane.specs.Entries.{entry_under, late_entry}
use Rattle.pmg_lane.proofs.entries.Entries.copy.Goals as goal

pub returns : goal.returns
returns c = (
  λ key. ap (λ o. option_map (entry_under key) (placed o)) (c.in_ok-copy_rows.ensures key),
  λ place. ap (λ o. option_map (late_entry place) (placed o)) (c.in_ok-copy_rows-2.ensures place),
)
