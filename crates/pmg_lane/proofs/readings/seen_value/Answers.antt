use Rattle.std.proofs.Common.{sym, ap}
use Rattle.std.specs.Option.{option_map}
use Rattle.pmg_lane.specs.Readings.{seen_entry}
use Rattle.pmg_lane.proofs.readings.seen_value.Goals as goal

pub returns-in-Some : goal.returns-in-Some
returns-in-Some c key = ap (λ o. option_map (λ e. e.bytes) (option_map (seen_entry key) o)) (sym c.in-Some.is)

pub returns-in-None : goal.returns-in-None
returns-in-None c key = ap (λ o. option_map (λ e. e.bytes) (option_map (seen_entry key) o)) (sym c.in-None.is)
