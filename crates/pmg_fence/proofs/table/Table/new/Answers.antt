use Rattle.pmg_fence.specs.Kept.{known_of}
use Rattle.pmg_fence.proofs.KeptLemmas.{kept_new}
use Rattle.pmg_fence.proofs.table.Table.new.Goals as goal

pub invariant_of-result : goal.invariant_of-result
invariant_of-result c =
    kept_new (known_of c.args.registry c.args.node c.new.result c.new-2.result c.new-3.result.items) c.new-4.result (λ i. record { series = c.new.ensures i; ends = c.new-2.ensures i }) c.new-4.ensures
