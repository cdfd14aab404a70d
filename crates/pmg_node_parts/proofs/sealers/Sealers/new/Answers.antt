use Rattle.pmg_node_parts.proofs.SealerLemmas.{none_of_nothing}
use Rattle.pmg_node_parts.proofs.sealers.Sealers.new.Goals as goal

pub invariant_of-result : goal.invariant_of-result
invariant_of-result c = λ _. none_of_nothing c.new.result.entries c.new.ensures.empty
