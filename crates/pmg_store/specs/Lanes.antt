-- The knowledge in lanes, by process.
use Rattle.std.specs.Prelude.{List, Option}
use Rattle.std.specs.Option.{option_map, option_to_list}
use Rattle.std.specs.List.{flat_map}
use Rattle.std.specs.BTreeMap.{BTreeMap, keys}
use Rattle.std.specs.FinMap as finite
use Rattle.pmg_value.specs.declared.process.Proc.{Proc}
use Rattle.pmg_value.specs.Process.{proc_cmp}
use Rattle.pmg_join.specs.Maps.{meant_at}
use Rattle.pmg_commit.specs.Cores.{Core}
use Rattle.pmg_commit.specs.Data.{Data}
use Rattle.pmg_lane.specs.Lanes.{core_in}
use Rattle.pmg_lane.specs.declared.track.Track.{Track}

-- the knowledge of the process in the lanes
abbrev pub held_at : BTreeMap Proc (Option Track) → Proc → Option Core
held_at places p = meant_at proc_cmp core_in places p

-- the process with its knowledge in the lanes, if there is any
abbrev pub row_at : BTreeMap Proc (Option Track) → Proc → List (Proc × Core)
row_at places p = option_to_list (option_map (λ core. (p, core)) (held_at places p))

-- the knowledge of all processes in the lanes
unfoldable pub data_in : BTreeMap Proc (Option Track) → Data
data_in places = finite.from_entries (flat_map (row_at places) (keys places))
