use Rattle.pmg_commit.proofs.Joining.{unions_assoc, unions_comm, unions_idem, cores_assoc, cores_comm, cores_idem, known_together, known_of_one}
use Rattle.pmg_commit.proofs.laws.data_rules.Goals as goal

pub returns : goal.returns
returns c = record {
  unions_assoc = unions_assoc;
  unions_comm = unions_comm;
  unions_idem = unions_idem;
  cores_assoc = cores_assoc;
  cores_comm = cores_comm;
  cores_idem = cores_idem;
  known_together = known_together;
  known_of_one = known_of_one;
}
