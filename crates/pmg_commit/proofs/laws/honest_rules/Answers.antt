use Rattle.pmg_commit.proofs.HonestLaws.{honest_reading, equal_levels_read_alike, honest_stays, honest_is_one, level_is_made}
use Rattle.pmg_commit.proofs.laws.honest_rules.Goals as goal

pub returns : goal.returns
returns c = record {
  honest_reading = honest_reading;
  equal_levels_read_alike = equal_levels_read_alike;
  honest_stays = honest_stays;
  honest_is_one = honest_is_one;
  level_is_made = level_is_made;
}
