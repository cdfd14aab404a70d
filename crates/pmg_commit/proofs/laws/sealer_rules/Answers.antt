use Rattle.pmg_commit.proofs.BatchLaws.{any_batch_fits}
use Rattle.pmg_commit.proofs.SealerLaws.{batch_fits, new_fits, seal_fits, end_fits, put_seals_nothing, enter_seals_nothing, pieces_are_honest, sealer_is_one}
use Rattle.pmg_commit.proofs.laws.sealer_rules.Goals as goal

pub returns : goal.returns
returns c = record {
  batch_fits = batch_fits;
  any_batch_fits = any_batch_fits;
  new_fits = new_fits;
  seal_fits = seal_fits;
  end_fits = end_fits;
  put_seals_nothing = put_seals_nothing;
  enter_seals_nothing = enter_seals_nothing;
  pieces_are_honest = pieces_are_honest;
  sealer_is_one = sealer_is_one;
}
