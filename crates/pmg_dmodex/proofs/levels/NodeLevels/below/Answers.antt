use Rattle.std.proofs.Common.{ℕ, ◌++◌, nat_lt, ◌∙◌}
use Rattle.std.specs.Prelude.{filter}
use Rattle.pmg_dmodex.proofs.LevelLemmas.{below_are}
use Rattle.pmg_dmodex.proofs.levels.NodeLevels.below.Goals as goal

pub loop-node-init : goal.loop-node-init
loop-node-init c =
    (λ i. c.new-pairs.ensures.items i ++ filter (λ (e : ℕ × ℕ). nat_lt e.1 c.args.level) ((c.into_iter-node-iterator.ensures.into_iter_gives ∙ c.iter-node-items.ensures.rest) i))
    ∙ below_are c.self.inside.rows.entries c.args.self.now c.args.level c.self.view_is c.iter-node-items.ensures.ordered
