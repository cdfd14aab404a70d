use Rattle.std.proofs.Common.{ap, Vec, Global, List}
use Rattle.pmg_value.specs.declared.process.Proc.{Proc}
use Rattle.pmg_value.specs.Rows.{rows_of}
use Rattle.pmg_frame.specs.FenceOrder.{signature_cmp}
use Rattle.pmg_fence.proofs.ListingLemmas.{OwnRow, no_index}
use Rattle.pmg_fence.proofs.owns.Owns.new.Goals as goal

pub invariant_of-result : goal.invariant_of-result
invariant_of-result c = no_index _ c.new-2.result (ap (λ (rows : List OwnRow). rows_of {R = signature_cmp} (λ (ps : Vec Proc Global). ps.items) rows) c.new.ensures.empty)
