use Rattle.std.proofs.Common.{suc, nat_lt, ◌∙◌}
use Rattle.pmg_fence.specs.Tables.{is_old, series_at}
use Rattle.pmg_fence.proofs.table.Table.is_old.Goals as goal

pub returns : goal.returns
unfolding is_old
returns c = c.is_old_at.ensures ∙ (λ i. nat_lt (suc (c.instance.ensures.value i)) (series_at c.args.self.now.fences (c.signature.ensures i)).top)
