use Rattle.pmg_fence.proofs.FitLemmas.{own_header_is_true, headers_are_true, told_is_true, ready_is_whole, gone_are_true}
use Rattle.pmg_fence.proofs.laws.table_rules.Goals as goal

pub returns : goal.returns
returns c = record {
  own_header_is_true = own_header_is_true;
  headers_are_true = headers_are_true;
  told_is_true = told_is_true;
  ready_is_whole = ready_is_whole;
  gone_are_true = gone_are_true;
}
