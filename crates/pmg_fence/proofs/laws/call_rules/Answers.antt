use Rattle.pmg_fence.proofs.StepLemmas.{new_fits, put_fits, commit_fits, enter_fits, end_fits, others_fit, learn_fits, header_fits}
use Rattle.pmg_fence.proofs.laws.call_rules.Goals as goal

pub returns : goal.returns
returns c = record {
  new_fits = new_fits;
  put_fits = put_fits;
  commit_fits = commit_fits;
  enter_fits = enter_fits;
  end_fits = end_fits;
  others_fit = others_fit;
  learn_fits = learn_fits;
  header_fits = header_fits;
}
