-- Cores are joined lawfully, and in their order the join is the least upper bound.
use Rattle.pmg_join.specs.Joins.{JoinLaws, JoinOrder}
use Rattle.pmg_commit.specs.Cores.{join_cores}
use Rattle.pmg_commit.specs.Within.{CoreWithin}
use Rattle.pmg_commit.proofs.Joining.{cores_assoc, cores_comm, cores_idem}
use Rattle.pmg_commit.proofs.CoreOrder.{cores_reflexive, cores_transitive, cores_antisymmetric, cores_left, cores_right, cores_least}

pub cores_joined : JoinLaws join_cores
cores_joined = record { assoc = cores_assoc; comm = cores_comm; idem = cores_idem }

pub cores_ordered : JoinOrder join_cores CoreWithin
cores_ordered = record {
  reflexive = cores_reflexive;
  transitive = cores_transitive;
  antisymmetric = cores_antisymmetric;
  left = cores_left;
  right = cores_right;
  least = cores_least;
}
