use Rattle.pmg_jobinfo.proofs.RuleLemmas.{each_is_meant, order_is_free, each_is_member}
use Rattle.pmg_jobinfo.proofs.laws.expansion_rules.Goals as goal

pub returns : goal.returns
returns c = record { each_is_meant = each_is_meant; order_is_free = order_is_free; each_is_member = each_is_member }
