use Rattle.pmg_store.proofs.Converging.{same_in_any_order, same_in_any_grouping, reads_alike, prints_alike, streams_print_alike}
use Rattle.pmg_store.proofs.MergeLaws.{merges_alike, merges_as_one}
use Rattle.pmg_store.proofs.EveryTaking.{converges}
use Rattle.pmg_store.proofs.Telling.{holds_union}
use Rattle.pmg_store.proofs.laws.pieces_in_any_order.Goals as goal

pub returns : goal.returns
returns c = record {
  converges = converges;
  any_order = same_in_any_order;
  any_grouping = same_in_any_grouping;
  reads_alike = reads_alike;
  prints_alike = prints_alike;
  streams_print_alike = streams_print_alike;
  merges_alike = merges_alike;
  merges_as_one = merges_as_one;
  union = holds_union;
}
