use Rattle.std.proofs.Common.{ℕ, sym, ap, ◌∙◌}
use Rattle.std.specs.FinMap as finite
use Rattle.pmg_value.proofs.ProcessOrder.{procs_total}
use Rattle.pmg_value.proofs.RowLemmas.{len_rising}
use Rattle.pmg_fence.specs.Tables.{Numbers}
use Rattle.pmg_fence.proofs.numbers.Numbers.len.Goals as goal

pub returns-clause-value : goal.returns-clause-value
returns-clause-value c = c.len.ensures.len ∙ sym (len_rising procs_total (λ (n : ℕ). n) c.self.inside.rows.entries c.len.ensures.ordered) ∙ ap (λ (m : Numbers). finite.len m) c.self.view_is
