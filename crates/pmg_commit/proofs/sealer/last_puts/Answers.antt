use Rattle.std.proofs.Common.{true, refl}
use Rattle.std.specs.Cmp.Lexicographic.{slice_cmp}
use Rattle.std.specs.Ordering.{nat_cmp}
use Rattle.pmg_value.specs.declared.value.Value.TheVariants as values
use Rattle.pmg_value.proofs.RowLemmas.{one_rises}
use Rattle.pmg_commit.proofs.sealer.last_puts.Goals as goal

pub returns-clause-rising : goal.returns-clause-rising
returns-clause-rising c = one_rises (slice_cmp nat_cmp) (c.of_termination.result, values.Bool true) _ refl
