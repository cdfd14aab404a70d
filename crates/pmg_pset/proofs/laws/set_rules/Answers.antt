use Rattle.pmg_pset.proofs.OrderLemmas.{members_rise, members_are_listed, order_is_free}
use Rattle.pmg_pset.proofs.RuleLemmas.{new_sets_fit, change_fits, change_is_seen, defined_is_live, deleted_is_not, reads_are_sets, one_piece_is_enough}
use Rattle.pmg_pset.proofs.laws.set_rules.Goals as goal

pub returns : goal.returns
returns c = record {
  new_sets_fit = new_sets_fit;
  change_fits = change_fits;
  change_is_seen = change_is_seen;
  defined_is_live = defined_is_live;
  deleted_is_not = deleted_is_not;
  reads_are_sets = reads_are_sets;
  one_piece_is_enough = one_piece_is_enough;
  members_rise = members_rise;
  members_are_listed = members_are_listed;
  order_is_free = order_is_free;
}
