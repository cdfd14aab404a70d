use Rattle.std.proofs.Common.{◌++◌, [], ◌∷◌, ap, ◌∙◌}
use Rattle.std.specs.Cmp.Lexicographic.{slice_cmp}
use Rattle.std.specs.Ordering.{nat_cmp}
use Rattle.pmg_value.proofs.RowLemmas.{one_rises}
use Rattle.pmg_scope.proofs.batch.one_row.Goals as goal

pub returns-clause-rising : goal.returns-clause-rising
returns-clause-rising c =
    one_rises (slice_cmp nat_cmp) (c.args.key, c.args.value) c.push.new.self.items
    (c.in_ok-push.ensures.items ∙ ap (λ rows. rows ++ (c.args.key, c.args.value) ∷ []) c.in_ok-rows.ensures.items)
