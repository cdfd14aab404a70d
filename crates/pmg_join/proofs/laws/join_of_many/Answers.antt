use Rattle.pmg_join.proofs.ManyJoined.{free_in_order, free_in_grouping, taken_item}
use Rattle.pmg_join.proofs.laws.join_of_many.Goals as goal

pub returns-clause-any_order : goal.returns-clause-any_order
returns-clause-any_order g c = free_in_order g.met.J.Join.laws

pub returns-clause-any_grouping : goal.returns-clause-any_grouping
returns-clause-any_grouping g c = free_in_grouping g.met.J.Join.laws

pub returns-clause-any_repeats : goal.returns-clause-any_repeats
returns-clause-any_repeats g c = taken_item g.met.J.Join.laws
