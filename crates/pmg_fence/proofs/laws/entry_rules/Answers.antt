use Rattle.pmg_fence.proofs.EntryLemmas.{entry_stays}
use Rattle.pmg_fence.proofs.FitLemmas.{header_stays}
use Rattle.pmg_fence.proofs.laws.entry_rules.Goals as goal

pub returns : goal.returns
returns c = record {
  entry_stays = entry_stays;
  header_stays = header_stays;
}
