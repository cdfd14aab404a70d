use Rattle.pmg_store.proofs.HonestDataLaws.{empty_is_honest, absorbed_is_honest, joined_is_honest, longer_is_honest, honest_data_reads, honest_level_is_made, levels_rise}
use Rattle.pmg_store.proofs.laws.honest_data.Goals as goal

pub returns : goal.returns
returns c = record {
  empty = empty_is_honest;
  absorbed = absorbed_is_honest;
  joined = joined_is_honest;
  longer = longer_is_honest;
  reads = honest_data_reads;
  level_is_made = honest_level_is_made;
  levels_rise = levels_rise;
}
