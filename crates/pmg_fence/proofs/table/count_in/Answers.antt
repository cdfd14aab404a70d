use Rattle.std.proofs.Common.{sym, ap, ◌∙◌, Bor}
use Rattle.std.specs.FinMap as finite
use Rattle.std.specs.Option.{option_map}
use Rattle.pmg_value.specs.Process.{proc_cmp}
use Rattle.std.proofs.Common.{ℕ}
use Rattle.pmg_fence.specs.Tables.{Fence}
use Rattle.pmg_fence.specs.Kept.{known_fence}
use Rattle.pmg_fence.proofs.table.count_in.Goals as goal

pub returns-in-None-clause-value : goal.returns-in-None-clause-value
returns-in-None-clause-value c =
    sym (finite.len-empty proc_cmp ℕ) ∙ ap (λ o. finite.len (known_fence (option_map (λ (f : Bor Fence). f.now) o)).levels) (sym c.in-None.is)
