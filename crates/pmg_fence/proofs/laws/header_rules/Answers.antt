use Rattle.pmg_fence.proofs.KeepLemmas.{learn_keeps, header_keeps, enter_keeps, end_keeps}
use Rattle.pmg_fence.proofs.laws.header_rules.Goals as goal

pub returns : goal.returns
returns c = record {
  learn_keeps = learn_keeps;
  header_keeps = header_keeps;
  enter_keeps = enter_keeps;
  end_keeps = end_keeps;
}
