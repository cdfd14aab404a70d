use Rattle.std.proofs.Common.{◌++◌, map, ◌∙◌}
use Rattle.pmg_commit.proofs.StampLemmas.{keys-rising}
use Rattle.pmg_commit.proofs.last_puts.LastPuts.keys.Goals as goal

pub loop-key-init : goal.loop-key-init
loop-key-init c =
    let start = c.into_iter-key-iterator.ensures.into_iter_gives ∙ c.iter-key-items.ensures.rest in
    (λ i. c.new-keys.ensures.items i ++ map (λ e. e.0) (start i))
    ∙ keys-rising c.self.inside.rows.entries c.args.self.now c.iter-key-items.ensures.ordered c.self.view_is
