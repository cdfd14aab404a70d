use Rattle.pmg_pset.proofs.OrderLemmas.{kept_once}
use Rattle.pmg_pset.proofs.members.each_once.Goals as goal

pub returns : goal.returns
returns c = kept_once c.args.list.items c.sort_unstable.new.self.items c.dedup.new.self.items c.sort_unstable.ensures.permutation c.sort_unstable.ensures.sorted c.dedup.ensures.filtered
