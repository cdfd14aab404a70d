use Rattle.std.proofs.Common.{ℕ, suc, not, nat_lt, rules}
use Rattle.std.proofs.lemmas.Map.Made.{filter_same_pairs}
use Rattle.pmg_fence.specs.Tables.{Fence}
use Rattle.pmg_fence.proofs.RowFacts.{instances_kept}
use Rattle.pmg_fence.proofs.series.Instances.forget.Goals as goal

pub returns : goal.returns
returns c =
    instances_kept c.self.inside.rows.entries c.retain.new.self.entries c.args.self.now c.args.top c.self.view_is
    (filter_same_pairs _ (λ (e : ℕ × Fence). not (nat_lt (suc e.0) c.args.top)) _ (λ k v b w f' t. search rules) _ _ c.retain.ensures.filtered)
