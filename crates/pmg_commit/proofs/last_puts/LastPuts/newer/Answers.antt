use Rattle.std.proofs.Common.{map, ◌++◌, ◌∙◌}
use Rattle.pmg_commit.specs.Pieces.{entry_of}
use Rattle.pmg_commit.proofs.StampLemmas.{newer_rows, newer-rising}
use Rattle.pmg_commit.proofs.last_puts.LastPuts.newer.Goals as goal

pub loop-key-init : goal.loop-key-init
loop-key-init c =
    let start = c.into_iter-key-iterator.ensures.into_iter_gives ∙ c.iter-key-items.ensures.rest in
    (λ i. map entry_of (c.new-entries.ensures.items i) ++ newer_rows c.args.from (start i))
    ∙ newer-rising c.args.from c.self.inside.rows.entries c.args.self.now c.iter-key-items.ensures.ordered c.self.view_is
