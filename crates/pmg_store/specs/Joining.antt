-- The join of the data of all processes satisfies the join laws, and in the order of data it is the least upper bound.
use Rattle.std.specs.FinMap as map
use Rattle.pmg_value.specs.declared.process.Proc.{Proc}
use Rattle.pmg_value.proofs.ProcessOrder.{procs_total, exact_procs}
use Rattle.pmg_join.specs.Joins.{JoinLaws, JoinOrder}
use Rattle.pmg_join.specs.Maps.{OptionWithin}
use Rattle.pmg_join.proofs.MapsJoined.{maps_joined, maps_ordered}
use Rattle.pmg_commit.specs.Data.{Data, join_data}
use Rattle.pmg_commit.specs.Within.{CoreWithin}
use Rattle.pmg_lane.specs.Joining.{cores_joined, cores_ordered}

-- Each process of the one is in the other. For each process, the numbers of the one are in the other, and each entry of the one is in the
-- other or superseded there at the other's level.
abbrev pub DataWithin : Data → Data → Type 0
DataWithin d e = (p : Proc) → OptionWithin CoreWithin (map.get d p) (map.get e p)

pub data_joined : JoinLaws join_data
data_joined = maps_joined procs_total exact_procs cores_joined

pub data_ordered : JoinOrder join_data DataWithin
data_ordered = maps_ordered procs_total exact_procs cores_ordered
